-- Which packages of a workspace are asked for which features of a command line.
use Rattle.std.specs.Prelude.{◌≡◌, codes, ℕ, ◌<◌, ◌==◌, Bool, false, ◌&&◌, ◌||◌, not, if◌then◌else◌, IsTrue, Option, Some, None, is_some, MatchOption, List, ◌++◌, length, map, filter, take, slice_get, All, option_to_list, Result, Ok, Err, Vec}
use Rattle.std.specs.List.{list_any, filter_map}
use Rattle.std.specs.Option.{IfSome, option_map_or}
use Rattle.std.specs.Str.{bytes_eq}
use Rattle.std.specs.String.{string_bytes}
use Rattle.std.specs.declared.alloc.Global.{Global}
use Rattle.guppy_data.specs.declared.records.PackageRecord.{PackageRecord}
use Rattle.guppy_data.specs.declared.texts.named_feature.NamedFeatureDep.{NamedFeatureDep}
use Rattle.guppy_data.specs.declared.texts.named_feature.NamedFeatureDep.TheVariants.{NamedFeature, OptionalDependency, DependencyNamedFeature}
use Rattle.guppy_graph.specs.Graph.{GraphData}
use Rattle.guppy_graph.specs.Members.{HasPath, IsMemberPath}
use Rattle.guppy_features.specs.declared.chosen.Chosen.{Chosen}
use Rattle.guppy_features.specs.declared.chosen.ChosenFault.{ChosenFault}
use Rattle.guppy_features.specs.declared.chosen.ChosenFault.TheVariants.{UnknownFeature, OutOfMemory}
use Rattle.guppy_features.specs.declared.chosen.Wanted.{Wanted}
use Rattle.guppy_features.specs.declared.chosen.Wanted.TheVariants.{Own, Through}
use Rattle.guppy_features.specs.declared.options.CargoResolverVersion.{CargoResolverVersion}
use Rattle.guppy_features.specs.declared.options.CargoResolverVersion.TheVariants.{V1, V2, V3}
use Rattle.guppy_features.specs.declared.options.Initial.{Initial}
use Rattle.guppy_features.specs.declared.options.StandardFeatures.{StandardFeatures}
use Rattle.guppy_features.specs.declared.options.StandardFeatures.TheVariants.{None as NoFeatures, Default, All as AllFeatures}
use Rattle.guppy_features.specs.Facts.{feature_place, optional_place}
use Rattle.guppy_features.specs.Dependencies.{links_from}

-- what is asked for: a feature by its name, an optional dependency as `dep:x`, or the feature of a dependency as `x/F`,
-- or as the weak `x?/F`
pub data Value : Type 0 where
  own : List ℕ → Value
  optional : List ℕ → Value
  through : List ℕ → List ℕ → Bool → Value

abbrev pub seen_value : NamedFeatureDep → Value
seen_value (NamedFeature name) = own (string_bytes name)
seen_value (OptionalDependency x) = optional (string_bytes x)
seen_value (DependencyNamedFeature x name weak) = through (string_bytes x) (string_bytes name) weak

abbrev pub seen_wanted : Wanted → Value
seen_wanted (Own name) = own name.now
seen_wanted (Through x name weak) = through x.now name.now weak

-- what one package is asked for
pub record InitialData : Type 0 where
  pub position : ℕ
  pub standard : StandardFeatures
  pub features : List Value

abbrev pub seen_initial : Initial → InitialData
seen_initial i = record {
  position = i.position;
  standard = i.standard;
  features = map seen_value i.features.items;
}

-- a graph, the positions of the chosen members, and the package at the root, if all is asked of that one
pub record ChosenData : Type 0 where
  pub graph : GraphData
  pub members : List ℕ
  pub root : Option ℕ

abbrev pub chosen : GraphData → List ℕ → Option ℕ → ChosenData
chosen graph members root = record { graph = graph; members = members; root = root }

abbrev pub chosen_of : Chosen → ChosenData
chosen_of c = chosen c.graph.now c.members.now c.root

-- all are positions of packages
pub record AreWithin (c : ChosenData) : Type 0 where
  pub members : All (λ p. p < length c.graph.packages) c.members
  pub root : IfSome c.root (λ p. p < length c.graph.packages)

-- with resolver 1 all is asked of the package at the workspace's root, if there is one
abbrev pub IsRootFor : GraphData → CargoResolverVersion → Option ℕ → Type 0
IsRootFor g V1 root = MatchOption root (¬ IsMemberPath g.packages (codes "")) (HasPath g.packages (codes ""))
IsRootFor g V2 root = root ≡ None
IsRootFor g V3 root = root ≡ None

-- of the package at the position
abbrev pub of_package : GraphData → ℕ → (PackageRecord → Bool) → Bool
of_package g p test = option_map_or test (slice_get g.packages p) false

abbrev pub is_named : GraphData → ℕ → List ℕ → Bool
is_named g p name = of_package g p (λ r. bytes_eq (string_bytes r.name) name)

abbrev pub has_feature : GraphData → ℕ → List ℕ → Bool
has_feature g p name = of_package g p (λ r. is_some (feature_place r name))

abbrev pub has_optional : GraphData → ℕ → List ℕ → Bool
has_optional g p x = of_package g p (λ r. is_some (optional_place r x))

abbrev pub has_dependency : GraphData → ℕ → List ℕ → Bool
has_dependency g p x = has_optional g p x
    || list_any (λ l. bytes_eq (string_bytes l.edge.dep_name) x) (links_from g p)

-- the name, as a feature of the package, if it has one
abbrev pub own_if : Bool → List ℕ → Option Value
own_if has name = if has then Some (own name) else None

-- what a package takes of what is asked for, where each is asked: its own feature, that of a dependency of its, and
-- its own behind its name
abbrev pub taken : GraphData → ℕ → Value → Option Value
taken g p (own name) = own_if (has_feature g p name) name
taken g p (optional x) = None
taken g p (through x name weak) = if has_dependency g p x then Some (through x name weak)
    else own_if (is_named g p x && has_feature g p name) name

-- the package has an optional dependency of this name, and no feature that is named so, too
abbrev pub is_hidden : GraphData → ℕ → List ℕ → Bool
is_hidden g p name = has_optional g p name && not (has_feature g p name)

-- it would take this but that its feature is hidden
abbrev pub hides : GraphData → ℕ → Value → Bool
hides g p (own name) = is_hidden g p name
hides g p (optional x) = false
hides g p (through x name weak) = not (has_dependency g p x) && (is_named g p x && is_hidden g p name)

-- the package is called so, and isn't the one at the root
abbrev pub is_other : ChosenData → ℕ → List ℕ → ℕ → Bool
is_other c root x p = not (p == root) && is_named c.graph p x

-- a chosen member beside the one at the root is called so
abbrev pub is_beside : ChosenData → ℕ → List ℕ → Bool
is_beside c root x = list_any (is_other c root x) c.members

-- and has the feature
abbrev pub is_beside_with : ChosenData → ℕ → List ℕ → List ℕ → Bool
is_beside_with c root x name = list_any (λ p. is_other c root x p && has_feature c.graph p name) c.members

-- what the package at the root takes where all is asked of it: what isn't of another chosen member by its name
abbrev pub taken_at_root : ChosenData → ℕ → Value → Option Value
taken_at_root c root (own name) = Some (own name)
taken_at_root c root (optional x) = None
taken_at_root c root (through x name weak) =
    if is_beside c root x then None else Some (through x name weak)

-- and what another one takes: its own feature behind its name
abbrev pub taken_by_name : GraphData → ℕ → Value → Option Value
taken_by_name g p (own name) = None
taken_by_name g p (optional x) = None
taken_by_name g p (through x name weak) = own_if (is_named g p x) name

-- what a package takes
abbrev pub taken_of : ChosenData → ℕ → Value → Option Value
taken_of c p v = option_map_or
    (λ root. if p == root then taken_at_root c root v else taken_by_name c.graph p v) c.root (taken c.graph p v)

-- `--no-default-features` is for the package at the root alone, where all is asked of it
abbrev pub beside_root : StandardFeatures → StandardFeatures
beside_root NoFeatures = Default
beside_root Default = Default
beside_root AllFeatures = AllFeatures

abbrev pub standard_of : ChosenData → ℕ → StandardFeatures → StandardFeatures
standard_of c p standard =
    option_map_or (λ root. if p == root then standard else beside_root standard) c.root standard

-- what the package is asked for
abbrev pub initial : ChosenData → StandardFeatures → List Value → ℕ → InitialData
initial c standard features p = record {
  position = p;
  standard = standard_of c p standard;
  features = filter_map (taken_of c p) features;
}

-- all is asked of the package
abbrev pub is_at_root : ChosenData → ℕ → Bool
is_at_root c p = option_map_or (λ root. p == root) c.root false

-- the chosen members, in their order, and behind them the package of which all is asked
abbrev pub positions : ChosenData → List ℕ
positions c = filter (λ p. not (is_at_root c p)) c.members ++ option_to_list c.root

abbrev pub initials : ChosenData → StandardFeatures → List Value → List InitialData
initials c standard features = map (initial c standard features) (positions c)

-- the feature's name has a slash, which Cargo refuses: the value is cut at the first one
abbrev pub has_slash : Value → Bool
has_slash (own name) = false
has_slash (optional x) = false
has_slash (through x name weak) = list_any (λ b. b == 47) name

-- Cargo accepts what a chosen member takes, if none hides it
abbrev pub is_accepted_by_one : ChosenData → Value → Bool
is_accepted_by_one c v = list_any (λ p. is_some (taken c.graph p v)) c.members
    && not (list_any (λ p. hides c.graph p v) c.members)

-- where all is asked of the package at the root: features and dependencies that it has, and features that the chosen
-- members called so have
abbrev pub is_accepted_at_root : ChosenData → ℕ → Value → Bool
is_accepted_at_root c root (own name) = has_feature c.graph root name
is_accepted_at_root c root (optional x) = false
is_accepted_at_root c root (through x name weak) =
    if is_beside c root x then is_beside_with c root x name else has_dependency c.graph root x

abbrev pub is_accepted : ChosenData → Value → Bool
is_accepted c v = not (has_slash v)
    && option_map_or (λ root. is_accepted_at_root c root v) c.root (is_accepted_by_one c v)

-- the value at the place is the first that isn't accepted
abbrev pub IsFirstRefused : ChosenData → List Value → ℕ → Type 0
IsFirstRefused c features n = All (λ v. IsTrue (is_accepted c v)) (take n features)
    × (v : Value) × (slice_get features n ≡ Some v) × (is_accepted c v ≡ false)

-- what is wrong: the first value that isn't accepted, or else memory is wanted
abbrev pub IsFaultOf : ChosenData → List Value → ChosenFault → Type 0
IsFaultOf c features (UnknownFeature n) = IsFirstRefused c features n
IsFaultOf c features OutOfMemory = All (λ v. IsTrue (is_accepted c v)) features

-- each package with what it is asked for, where all values are accepted, or else what is wrong
abbrev pub IsAnswer : ChosenData → StandardFeatures → List Value
    → Result (Vec Initial Global) ChosenFault → Type 0
IsAnswer c standard features (Ok answer) = All (λ v. IsTrue (is_accepted c v)) features
    × (map seen_initial answer.items ≡ initials c standard features)
IsAnswer c standard features (Err fault) = IsFaultOf c features fault
