-- Declared dependencies that are seen alike: what links are gathered from them is the same.
use Rattle.std.proofs.Common.{◌≡◌, ◌∙◌, ℕ, Bool, true, false, not, List, [], ◌∷◌, Option, None, filter, map, refl, sym, ap, subst, codes}
use Rattle.std.specs.Prelude.{unwrap_or}
use Rattle.std.specs.Borrow.{Bor}
use Rattle.std.specs.List.{AllZip, fold}
use Rattle.std.specs.Option.{option_copied}
use Rattle.std.specs.Str.{bytes_eq}
use Rattle.json.specs.Json.{Json}
use Rattle.semver.specs.Identifiers.{comparator_view}
use Rattle.guppy_data.specs.declared.records.DependencyReqImpl.{DependencyReqImpl}
use Rattle.guppy_data.specs.declared.records.DepRequiredOrOptional.{DepRequiredOrOptional}
use Rattle.guppy_data.specs.declared.records.Details.{Details}
use Rattle.guppy_data.specs.declared.records.Details.TheVariants.{With, Without}
use Rattle.guppy_data.specs.declared.records.LinkRecord.{LinkRecord}
use Rattle.guppy_data.specs.declared.texts.dependency_kind.DependencyKind.{DependencyKind}
use Rattle.guppy_data.specs.declared.texts.dependency_kind.DependencyKind.TheVariants.{Normal, Development, Build}
use Rattle.guppy_metadata.specs.declared.types.Declared.{Declared}
use Rattle.guppy_metadata.specs.Dependency.{AreAsked, IsDeclared, manifest_name}
use Rattle.guppy_metadata.specs.Gathered.{status_for, asked_too, asks_for, feature_status, targets_of, IsSide, IsSection, same_section, is_of_section, first_of, IsGathered, IsNamedAs, IsLinkOf}
use Rattle.guppy_metadata.proofs.AlikeLists.{made_alike, flat_alike, picked_alike}
use Rattle.guppy_metadata.proofs.OnceTold.{text_once, optional_text_once, truth_once, texts_once, section_once, requirement_once}

-- the two are seen alike
pub record IsSame (x y : Declared) : Type 0 where
  pub name : x.name.now ≡ y.name.now
  pub rename : option_copied x.rename ≡ option_copied y.rename
  pub requirement : map comparator_view x.requirement.comparators.items ≡ map comparator_view y.requirement.comparators.items
  pub section : x.section ≡ y.section
  pub target : option_copied x.target ≡ option_copied y.target
  pub optional : x.optional ≡ y.optional
  pub default_features : x.default_features ≡ y.default_features
  pub features : map (λ text. text.now) x.features.items ≡ map (λ text. text.now) y.features.items
  pub registry : option_copied x.registry ≡ option_copied y.registry
  pub path : option_copied x.path ≡ option_copied y.path

pub same_itself : (x : Declared) → IsSame x x
same_itself x = record {
  name = refl;
  rename = refl;
  requirement = refl;
  section = refl;
  target = refl;
  optional = refl;
  default_features = refl;
  features = refl;
  registry = refl;
  path = refl;
}

-- one JSON asks for the same features
asked_once : (details : Details) (d : Json) (texts others : List (List ℕ)) → AreAsked details d texts → AreAsked details d others → texts ≡ others
asked_once With d texts others are also = texts_once d (codes "features") texts others (are.told refl) (also.told refl)
asked_once Without d texts others are also = are.left_out refl ∙ sym (also.left_out refl)

-- one JSON declares the same
pub declared_once : (details : Details) (d : Json) (x y : Declared) → IsDeclared details d x → IsDeclared details d y → IsSame x y
declared_once details d x y is also = record {
  name = text_once d (codes "name") x.name.now y.name.now is.name also.name;
  rename = optional_text_once d (codes "rename") (option_copied x.rename) (option_copied y.rename) is.rename also.rename;
  requirement = requirement_once d x.requirement y.requirement is.requirement also.requirement;
  section = section_once d x.section y.section is.section also.section;
  target = optional_text_once d (codes "target") (option_copied x.target) (option_copied y.target) is.target also.target;
  optional = truth_once d (codes "optional") false x.optional y.optional is.optional also.optional;
  default_features = truth_once d (codes "uses_default_features") true x.default_features y.default_features is.default_features also.default_features;
  features = asked_once details d (map (λ text. text.now) x.features.items) (map (λ text. text.now) y.features.items) is.features also.features;
  registry = optional_text_once d (codes "registry") (option_copied x.registry) (option_copied y.registry) is.registry also.registry;
  path = optional_text_once d (codes "path") (option_copied x.path) (option_copied y.path) is.path also.path;
}

-- the two have the same name in the manifest
manifest_name_same : (x y : Declared) → IsSame x y → manifest_name x ≡ manifest_name y
manifest_name_same x y same = ap (λ rename. unwrap_or rename x.name.now) same.rename ∙ ap (unwrap_or (option_copied y.rename)) same.name

asks_by : (name : List ℕ) (target : Option (List ℕ)) (features : List (Bor (List ℕ)))
    → map (λ _. target) (filter (λ feature. bytes_eq name feature.now) features) ≡ map (λ _. target) (filter (bytes_eq name) (map (λ text. text.now) features))
asks_by name target [] = refl
asks_by name target (feature ∷ features) = by (bytes_eq name feature.now) refl (asks_by name target features)
  where
    by : (names : Bool) → bytes_eq name feature.now ≡ names
        → map (λ _. target) (filter (λ feature. bytes_eq name feature.now) features) ≡ map (λ _. target) (filter (bytes_eq name) (map (λ text. text.now) features))
        → map (λ _. target) (filter (λ feature. bytes_eq name feature.now) (feature ∷ features)) ≡ map (λ _. target) (filter (bytes_eq name) (map (λ text. text.now) (feature ∷ features)))
    by true names behind = rw names (ap (λ ts. target ∷ ts) behind)
    by false names behind = rw names behind

-- the two ask for a feature on the same platforms
asks_for_same : (name : List ℕ) (x y : Declared) → IsSame x y → asks_for name x ≡ asks_for name y
asks_for_same name x y same =
    asks_by name (option_copied x.target) x.features.items
    ∙ (ap (λ target. map (λ _. target) (filter (bytes_eq name) (map (λ text. text.now) x.features.items))) same.target
    ∙ (ap (λ texts. map (λ _. option_copied y.target) (filter (bytes_eq name) texts)) same.features
    ∙ sym (asks_by name (option_copied y.target) y.features.items)))

-- lists of such, place by place
module _ (xs ys : List Declared) (all : AllZip IsSame xs ys) where
  targets_same : targets_of xs ≡ targets_of ys
  targets_same = made_alike IsSame (λ x. option_copied x.target) (λ x. option_copied x.target) (λ x y same. same.target) xs ys all

  feature_same : (name : List ℕ) → feature_status name xs ≡ feature_status name ys
  feature_same name = ap (fold asked_too None) (flat_alike IsSame (asks_for name) (asks_for name) (asks_for_same name) xs ys all)

picked : (p : Declared → Bool) → ((x y : Declared) → IsSame x y → p x ≡ p y) → (xs ys : List Declared) → AllZip IsSame xs ys → AllZip IsSame (filter p xs) (filter p ys)
picked p same xs ys all = picked_alike IsSame p p same xs ys all

side_same : (xs ys : List Declared) (side : DepRequiredOrOptional) → AllZip IsSame xs ys → IsSide xs side → IsSide ys side
side_same xs ys side all is = record {
  built = is.built ∙ ap status_for (targets_same xs ys all);
  with_defaults = is.with_defaults ∙ ap status_for (targets_same _ _ (picked (λ x. x.default_features) (λ x y same. same.default_features) xs ys all));
  without_defaults = is.without_defaults ∙ ap status_for (targets_same _ _ (picked (λ x. not x.default_features) (λ x y same. ap not same.default_features) xs ys all));
  features = λ name. is.features name ∙ feature_same xs ys all name;
}

section_same : (xs ys : List Declared) (section : DependencyReqImpl) → AllZip IsSame xs ys → IsSection xs section → IsSection ys section
section_same xs ys section all is = record {
  required = side_same _ _ section.required (picked (λ x. not x.optional) (λ x y same. ap not same.optional) xs ys all) is.required;
  optional = side_same _ _ section.optional (picked (λ x. x.optional) (λ x y same. same.optional) xs ys all) is.optional;
}

of_section_same : (section : DependencyKind) (xs ys : List Declared) → AllZip IsSame xs ys → AllZip IsSame (filter (is_of_section section) xs) (filter (is_of_section section) ys)
of_section_same section xs ys all = picked (is_of_section section) (λ x y same. ap (same_section section) same.section) xs ys all

-- what is gathered from the ones is gathered from the others
gathered_same : (xs ys : List Declared) (r : LinkRecord) → AllZip IsSame xs ys → IsGathered xs r → IsGathered ys r
gathered_same xs ys r all is = record {
  normal = section_same _ _ r.normal (of_section_same Normal xs ys all) is.normal;
  build = section_same _ _ r.build (of_section_same Build xs ys all) is.build;
  dev = section_same _ _ r.dev (of_section_same Development xs ys all) is.dev;
  registry = is.registry ∙ ap first_of (made_alike IsSame (λ x. option_copied x.registry) (λ x. option_copied x.registry) (λ x y same. same.registry) xs ys all);
  path = is.path ∙ ap first_of (made_alike IsSame (λ x. option_copied x.path) (λ x. option_copied x.path) (λ x y same. same.path) xs ys all);
}

named_same : (x y : Declared) (r : LinkRecord) → IsSame x y → IsNamedAs x r → IsNamedAs y r
named_same x y r same is = record { dep_name = is.dep_name ∙ manifest_name_same x y same; requirement = is.requirement ∙ same.requirement }

first_same : (xs ys : List Declared) (first : Declared) (others : List Declared) → xs ≡ first ∷ others → AllZip IsSame xs ys
    → (y : Declared) × (rest : List Declared) × (ys ≡ y ∷ rest) × IsSame first y
first_same xs [] first others parts all = absurd (subst (λ zs. AllZip IsSame zs []) parts all)
first_same xs (y ∷ ys) first others parts all = (y, ys, refl, (subst (λ zs. AllZip IsSame zs (y ∷ ys)) parts all).0)

-- the link of the ones is that of the others
pub link_same : (xs ys : List Declared) (r : LinkRecord) → AllZip IsSame xs ys → IsLinkOf xs r → IsLinkOf ys r
link_same xs ys r all is =
    let front = first_same xs ys is.first is.others is.parts all in record {
      first = front.0;
      others = front.1;
      parts = front.2;
      named = named_same is.first front.0 r front.3 is.named;
      gathered = gathered_same xs ys r all is.gathered;
    }
