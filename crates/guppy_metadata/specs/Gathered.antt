-- What a link is gathered from: declared dependencies, in their order.
use Rattle.std.specs.Prelude.{◌≡◌, ℕ, Bool, true, false, not, List, ◌∷◌, Option, Some, None, String, filter, map, option_map, unwrap_or, string_bytes}
use Rattle.std.specs.declared.alloc.Global.{Global}
use Rattle.std.specs.BTreeMap.{BTreeMap, get_by_text}
use Rattle.std.specs.List.{fold, flat_map}
use Rattle.std.specs.Option.{option_copied, option_or}
use Rattle.std.specs.Str.{bytes_eq}
use Rattle.semver.specs.Identifiers.{comparator_view}
use Rattle.guppy_data.specs.declared.platform.status.PlatformStatusImpl.{PlatformStatusImpl}
use Rattle.guppy_data.specs.declared.records.DependencyReqImpl.{DependencyReqImpl}
use Rattle.guppy_data.specs.declared.records.DepRequiredOrOptional.{DepRequiredOrOptional}
use Rattle.guppy_data.specs.declared.records.LinkRecord.{LinkRecord}
use Rattle.guppy_data.specs.declared.texts.dependency_kind.DependencyKind.{DependencyKind}
use Rattle.guppy_data.specs.declared.texts.dependency_kind.DependencyKind.TheVariants.{Normal, Development, Build}
use Rattle.guppy_data.specs.Platform.{Status, Never, recorded_status, with_spec}
use Rattle.guppy_metadata.specs.declared.types.Declared.{Declared}
use Rattle.guppy_metadata.specs.Dependency.{manifest_name}

-- the platforms of these dependencies
abbrev pub targets_of : List Declared → List (Option (List ℕ))
targets_of = map (λ x. option_copied x.target)

-- the status of what is asked for on these platforms: `Always` where one of them is none
abbrev pub status_for : List (Option (List ℕ)) → Status
status_for targets = fold with_spec Never targets

-- the status of a feature that is asked for on one more platform
abbrev pub asked_too : Option Status → Option (List ℕ) → Option Status
asked_too status target = Some (with_spec (unwrap_or status Never) target)

-- the platforms on which a dependency asks for the feature: its own, each time that it names it
abbrev pub asks_for : List ℕ → Declared → List (Option (List ℕ))
asks_for name x = map (λ _. option_copied x.target) (filter (λ feature. bytes_eq name feature.now) x.features.items)

-- the status of the feature, where one of the dependencies names it
abbrev pub feature_status : List ℕ → List Declared → Option Status
feature_status name xs = fold asked_too None (flat_map (asks_for name) xs)

-- the status that the feature has in a map
abbrev pub status_at : BTreeMap (String Global) PlatformStatusImpl → List ℕ → Option Status
status_at statuses name = option_map recorded_status (get_by_text statuses name)

-- what these dependencies ask for
pub record IsSide (xs : List Declared) (side : DepRequiredOrOptional) : Type 0 where
  pub built : recorded_status side.build_if ≡ status_for (targets_of xs)
  pub with_defaults : recorded_status side.default_features_if ≡ status_for (targets_of (filter (λ x. x.default_features) xs))
  pub without_defaults : recorded_status side.no_default_features_if ≡ status_for (targets_of (filter (λ x. not x.default_features) xs))
  pub features : (name : List ℕ) → status_at side.feature_targets name ≡ feature_status name xs

-- what these dependencies ask for, the required and the optional ones apart
pub record IsSection (xs : List Declared) (section : DependencyReqImpl) : Type 0 where
  pub required : IsSide (filter (λ x. not x.optional) xs) section.required
  pub optional : IsSide (filter (λ x. x.optional) xs) section.optional

abbrev pub same_section : DependencyKind → DependencyKind → Bool
same_section Normal Normal = true
same_section Development Development = true
same_section Build Build = true
same_section one other = false

-- whether the dependency is of this section
abbrev pub is_of_section : DependencyKind → Declared → Bool
is_of_section section x = same_section section x.section

-- the first text that is there
abbrev pub first_of : List (Option (List ℕ)) → Option (List ℕ)
first_of texts = fold option_or None texts

-- what these dependencies ask for, in their sections, and the first registry and path that they ask for
pub record IsGathered (xs : List Declared) (r : LinkRecord) : Type 0 where
  pub normal : IsSection (filter (is_of_section Normal) xs) r.normal
  pub build : IsSection (filter (is_of_section Build) xs) r.build
  pub dev : IsSection (filter (is_of_section Development) xs) r.dev
  pub registry : option_map string_bytes r.registry ≡ first_of (map (λ x. option_copied x.registry) xs)
  pub path : r.path ≡ first_of (map (λ x. option_copied x.path) xs)

-- the link has the name in the manifest and the requirement of this dependency
pub record IsNamedAs (x : Declared) (r : LinkRecord) : Type 0 where
  pub dep_name : string_bytes r.dep_name ≡ manifest_name x
  pub requirement : map comparator_view r.version_req.comparators.items ≡ map comparator_view x.requirement.comparators.items

-- the link of these dependencies: gathered from all, with the names of the first
pub record IsLinkOf (xs : List Declared) (r : LinkRecord) : Type 0 where
  pub first : Declared
  pub others : List Declared
  pub parts : xs ≡ first ∷ others
  pub named : IsNamedAs first r
  pub gathered : IsGathered xs r
