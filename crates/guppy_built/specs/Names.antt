-- What facts say, by names.
use Rattle.std.specs.Prelude.{ℕ, List, Option, Some, option_map, slice_get, option_to_list, ◌++◌}
use Rattle.std.specs.List.{filter_map}
use Rattle.std.specs.Option.{option_and_then}
use Rattle.std.specs.String.{string_bytes}
use Rattle.guppy_data.specs.declared.records.PackageRecord.{PackageRecord}
use Rattle.guppy_graph.specs.Graph.{GraphData}
use Rattle.guppy_features.specs.declared.fact.BuildPlatform.{BuildPlatform}
use Rattle.guppy_features.specs.declared.fact.Fact.{Fact}
use Rattle.guppy_features.specs.declared.fact.FactKind.{FactKind}
use Rattle.guppy_features.specs.declared.fact.FactKind.TheVariants.{Part as PartFact, Switched, Feature as FeatureFact}
use Rattle.guppy_features.specs.declared.reason.Reason.{Reason}
use Rattle.guppy_features.specs.Reasons.{grounds}
use Rattle.guppy_built.specs.declared.names.FactName.{FactName}
use Rattle.guppy_built.specs.declared.names.FactName.TheVariants.{Part, Dependency, Feature}
use Rattle.guppy_built.specs.declared.names.NamedFact.{NamedFact}
use Rattle.guppy_built.specs.declared.names.NamedReason.{NamedReason}

-- what is said of a package: that it takes part, that its optional dependency of this name is switched on, or that its
-- feature of this name is on
pub data Said : Type 0 where
  takes_part : Said
  switched_on : List ℕ → Said
  feature_on : List ℕ → Said

-- of which package, by its ID, on which side
pub record NamedFactData : Type 0 where
  pub id : List ℕ
  pub side : BuildPlatform
  pub said : Said

-- a fact with those that it follows from
pub record StepData : Type 0 where
  pub fact : NamedFactData
  pub grounds : List NamedFactData

abbrev pub said_shown : FactName → Said
said_shown Part = takes_part
said_shown (Dependency name) = switched_on name.now
said_shown (Feature name) = feature_on name.now

abbrev pub fact_shown : NamedFact → NamedFactData
fact_shown f = record { id = f.id.now; side = f.side; said = said_shown f.name }

abbrev pub step_shown : NamedReason → StepData
step_shown r = record {
  fact = fact_shown r.fact;
  grounds = option_to_list (option_map fact_shown r.first) ++ option_to_list (option_map fact_shown r.second);
}

-- what is said by a fact of the package
abbrev pub said_by : PackageRecord → FactKind → ℕ → Option Said
said_by r PartFact place = Some takes_part
said_by r Switched place = option_map (λ name. switched_on (string_bytes name)) (slice_get r.optional_deps.keys place)
said_by r FeatureFact place = option_map (λ e. feature_on (string_bytes e.0)) (slice_get r.named_features.entries place)

-- the fact by names, if there are its package and what it says of it
abbrev pub named : GraphData → Fact → Option NamedFactData
named g f = option_and_then (λ r. option_map (λ said. record { id = r.id; side = f.side; said = said })
    (said_by r f.kind f.place)) (slice_get g.packages f.position)

-- a step by names
abbrev pub named_step : GraphData → Reason → Option StepData
named_step g r = option_map (λ fact. record { fact = fact; grounds = filter_map (named g) (grounds r) }) (named g r.fact)
