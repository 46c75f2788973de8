-- Packages with a name.
use Rattle.std.proofs.Common.{ℕ, ◌<◌, List, get_or, length, All}
use Rattle.std.specs.Prelude.{◌↔◌}
use Rattle.std.specs.List.{Contains}
use Rattle.std.proofs.lemmas.List.Elements.{Contains-get_or}
use Rattle.guppy_data.specs.declared.records.PackageRecord.{PackageRecord}
use Rattle.guppy.specs.PackageNames.{HasPackageName}
use Rattle.guppy_graph.proofs.PackageIds.{some_within}

pub named_within : (packages : List PackageRecord) (name : List ℕ) (p : ℕ) → HasPackageName packages name p → p < length packages
named_within packages name p has = some_within packages p _ has

-- positions of packages with a name are positions of packages
pub named_below : (packages : List PackageRecord) (name : List ℕ) (positions : List ℕ) → ((p : ℕ) → Contains positions p ↔ HasPackageName packages name p) → All (λ p. p < length packages) positions
named_below packages name positions are k d within = named_within packages name (get_or positions k d) ((are (get_or positions k d)).0 (Contains-get_or positions k d within))
