-- Packages that are found by their IDs, as flags tell them.
use Rattle.std.proofs.Common.{◌<◌, arith, ◌≡◌, ◌∙◌, sym, refl, ap, ℕ, zero, suc, Bool, List, [], ◌∷◌, length, inl, inr, ◌++◌, append_assoc, codes, string_bytes, Some, None, if◌then◌else◌}
use Rattle.std.specs.Prelude.{Option, slice_get, IsSomeAnd}
use Rattle.std.specs.Option.{option_map_or}
use Rattle.std.specs.Str.{bytes_eq}
use Rattle.std.proofs.lemmas.Bool.{cases_Bool}
use Rattle.std.proofs.lemmas.Slice.Eq.{bytes_eq-Decides}
use Rattle.semver.specs.declared.Version.{Version}
use Rattle.semver.specs.Identifiers.{version_text}
use Rattle.guppy_data.specs.declared.records.PackageRecord.{PackageRecord}
use Rattle.guppy_graph.specs.Ids.{HasId, IsKnown, DistinctBelow}
use Rattle.guppy_command.specs.Ids.{full_name_of, is_only}
use Rattle.guppy_print.specs.Flags.{record_of, spec_of}

within : (packages : List PackageRecord) (id : List ℕ) (p : ℕ) → HasId packages id p → p < length packages
within [] id p has = absurd has
within (r ∷ rs) id zero has = omega arith
within (r ∷ rs) id (suc p) has = omega (arith, within rs id p has)

-- packages with distinct IDs that have the same one are one
pub one_place : (packages : List PackageRecord) → DistinctBelow packages (length packages) → (id : List ℕ) (p q : ℕ) → HasId packages id p → HasId packages id q → p ≡ q
one_place packages distinct id p q has has' = distinct p q id (within packages id p has) (within packages id q has') has has'

found_somewhere : (packages : List PackageRecord) (id : List ℕ) (p : ℕ) → HasId packages id p → (q : ℕ) × HasId packages id q × (record_of packages id ≡ slice_get packages q)
found_somewhere [] id p has = absurd has
found_somewhere (r ∷ rs) id zero has = let here = (bytes_eq-Decides id r.id).1 (sym has) in (zero, has, rw here refl)
found_somewhere (r ∷ rs) id (suc p) has = elim (cases_Bool (bytes_eq id r.id)) [
  | inl is ↦ (zero, sym ((bytes_eq-Decides id r.id).0 is), rw is refl)
  | inr not ↦ let later = found_somewhere rs id p has in (suc later.0, later.1, rw not later.2)
]

-- the one package with the ID is found
pub found_at : (packages : List PackageRecord) → DistinctBelow packages (length packages) → (id : List ℕ) (p : ℕ) → HasId packages id p → record_of packages id ≡ slice_get packages p
found_at packages distinct id p has =
    let found = found_somewhere packages id p has in
    found.2 ∙ ap (slice_get packages) (one_place packages distinct id found.0 p found.1 has)

-- where none has the ID, none is found
pub not_found : (packages : List PackageRecord) (id : List ℕ) → (IsKnown packages id → ⊥) → record_of packages id ≡ None
not_found [] id unknown = refl
not_found (r ∷ rs) id unknown = elim (cases_Bool (bytes_eq id r.id)) [
  | inl is ↦ absurd (unknown (zero, sym ((bytes_eq-Decides id r.id).0 is)))
  | inr not ↦ rw not (not_found rs id (λ known. unknown (suc known.0, known.1)))
]

-- the name of a package with its version
pub full_name : (o : Option PackageRecord) (name : List ℕ) (version : Version) → IsSomeAnd o (λ r. name ≡ string_bytes r.name) → IsSomeAnd o (λ r. version ≡ r.version)
    → (full : List ℕ) → full ≡ name ++ (codes "@" ++ version_text version) → IsSomeAnd o (λ r. full ≡ full_name_of r)
full_name None name version is is' full told = absurd is
full_name (Some r) name version is is' full told = told ∙ rw (is, is') (sym (append_assoc (string_bytes r.name) (codes "@") (version_text r.version)))

module _ (meant : List ℕ → List (List ℕ)) (id : List ℕ) where
  of_record : (name : List ℕ) (o : Option PackageRecord) → IsSomeAnd o (λ r. name ≡ full_name_of r) → (alone : Bool) → alone ≡ is_only id (meant name)
      → (if alone then name else id) ≡ option_map_or (λ r. if is_only id (meant (full_name_of r)) then full_name_of r else id) o id
  of_record name None is alone means = absurd is
  of_record name (Some r) is alone means = rw (means, is) refl

  -- cargo knows the package by its name with its version where that means it alone, and else by its ID
  pub spec_known : (packages : List PackageRecord) → DistinctBelow packages (length packages) → (p : ℕ) → HasId packages id p → (name : List ℕ) → IsSomeAnd (slice_get packages p) (λ r. name ≡ full_name_of r)
      → (alone : Bool) → alone ≡ is_only id (meant name) → (if alone then name else id) ≡ spec_of meant packages id
  spec_known packages distinct p has name is alone means = rw (found_at packages distinct id p has) (of_record name (slice_get packages p) is alone means)

  pub spec_unknown : (packages : List PackageRecord) → (IsKnown packages id → ⊥) → id ≡ spec_of meant packages id
  spec_unknown packages unknown = rw (not_found packages id unknown) refl
