-- What is seen of a dependency of one kind.
use Rattle.std.specs.Prelude.{ℕ, List, ◌++◌, map}
use Rattle.std.specs.BTreeMap.{get_by_text, keys}
use Rattle.std.specs.Option.{option_map_or}
use Rattle.std.specs.String.{string_bytes}
use Rattle.guppy_data.specs.declared.records.DependencyReqImpl.{DependencyReqImpl}
use Rattle.guppy_data.specs.declared.records.DepRequiredOrOptional.{DepRequiredOrOptional}
use Rattle.guppy_data.specs.declared.views.dependency_req.DependencyReq.{DependencyReq}
use Rattle.guppy_data.specs.declared.views.dependency_req.Features.{Features}
use Rattle.guppy_data.specs.Platform.{Status, Never, recorded_status}

-- the record that is seen
abbrev pub seen_req : DependencyReq → DependencyReqImpl
seen_req req = req.req.now

-- the names of the features of one part, required or optional
abbrev pub feature_names : DepRequiredOrOptional → List (List ℕ)
feature_names part = map string_bytes (keys part.feature_targets)

-- the status of a feature in one part, never where the part hasn't the name
abbrev pub status_of_feature : DepRequiredOrOptional → List ℕ → Status
status_of_feature part name =
    option_map_or recorded_status (get_by_text part.feature_targets name) Never

-- the names that are still to come
abbrev pub names_left : Features → List (List ℕ)
names_left names = map string_bytes names.required ++ map string_bytes names.optional
