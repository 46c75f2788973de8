-- What a link is gathered from, with one dependency more.
use Rattle.std.proofs.Common.{◌≡◌, ◌∙◌, ℕ, List, [], ◌∷◌, ◌++◌, Option, None, filter, map, option_map, string_bytes, sym, ap, subst, if◌then◌else◌}
use Rattle.std.specs.Option.{option_copied, option_or}
use Rattle.std.proofs.lemmas.List.{map-append, append-nil}
use Rattle.std.proofs.lemmas.List.Elements.{filter-append}
use Rattle.std.proofs.lemmas.List.Sums.{fold-append}
use Rattle.guppy_data.specs.declared.records.DependencyReqImpl.{DependencyReqImpl}
use Rattle.guppy_data.specs.declared.records.LinkRecord.{LinkRecord}
use Rattle.guppy_data.specs.declared.texts.dependency_kind.DependencyKind.{DependencyKind}
use Rattle.guppy_data.specs.declared.texts.dependency_kind.DependencyKind.TheVariants.{Normal, Development, Build}
use Rattle.guppy_metadata.specs.declared.types.Declared.{Declared}
use Rattle.guppy_metadata.specs.Gathered.{IsSection, IsGathered, same_section, is_of_section, first_of}

-- a section that nothing is added to
pub section_kept : (xs : List Declared) (section : DependencyReqImpl) → IsSection xs section → IsSection (xs ++ []) section
section_kept xs section is = subst (λ l. IsSection l section) (sym (append-nil xs)) is

-- the first text among those of the dependencies
first_more : (f : Declared → Option (List ℕ)) (before : List Declared) (x : Declared) → first_of (map f (before ++ x ∷ [])) ≡ option_or (first_of (map f before)) (f x)
first_more f before x = ap first_of (map-append f before (x ∷ [])) ∙ fold-append option_or None (map f before) (f x ∷ [])

module _ (before : List Declared) (x : Declared) where
  -- the dependencies of a section, with this one where it is of this section
  abbrev pub with_one : DependencyKind → DependencyKind → List Declared
  with_one section own = filter (is_of_section section) before ++ (if same_section section own then x ∷ [] else [])

  with_one_is : (section own : DependencyKind) → x.section ≡ own → with_one section own ≡ filter (is_of_section section) (before ++ x ∷ [])
  with_one_is section own is = sym (filter-append (is_of_section section) before (x ∷ [])
      ∙ ap (λ own. filter (is_of_section section) before ++ (if same_section section own then x ∷ [] else [])) is)

  pub gathered_more : (old new : LinkRecord) (own : DependencyKind) → x.section ≡ own
      → IsSection (with_one Normal own) new.normal → IsSection (with_one Build own) new.build → IsSection (with_one Development own) new.dev
      → option_map string_bytes new.registry ≡ option_or (option_map string_bytes old.registry) (option_copied x.registry)
      → new.path ≡ option_or old.path (option_copied x.path)
      → IsGathered before old → IsGathered (before ++ x ∷ []) new
  gathered_more old new own is normal build dev registry path were = record {
    normal = subst (λ l. IsSection l new.normal) (with_one_is Normal own is) normal;
    build = subst (λ l. IsSection l new.build) (with_one_is Build own is) build;
    dev = subst (λ l. IsSection l new.dev) (with_one_is Development own is) dev;
    registry = registry ∙ (ap (λ first. option_or first (option_copied x.registry)) were.registry ∙ sym (first_more (λ x. option_copied x.registry) before x));
    path = path ∙ (ap (λ first. option_or first (option_copied x.path)) were.path ∙ sym (first_more (λ x. option_copied x.path) before x));
  }
