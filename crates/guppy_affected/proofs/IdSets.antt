-- Sets of IDs, as their elements are shown.
use Rattle.std.proofs.Common.{◌≡◌, ◌∙◌, sym, subst, ℕ, true, List, map, Bor}
use Rattle.std.specs.Prelude.{◌↔◌, Contains}
use Rattle.std.specs.List.{Any}
use Rattle.std.specs.Str.{bytes_eq}
use Rattle.std.proofs.lemmas.Slice.Eq.{bytes_eq-Decides}
use Rattle.guppy_data.specs.declared.records.PackageRecord.{PackageRecord}
use Rattle.guppy_data.specs.declared.texts.package_id.PackageId.{PackageId}
use Rattle.guppy_data.specs.Sorted.{KeepsUpTo}
use Rattle.guppy_data.proofs.Mapped.{Contains-map, from_map}
use Rattle.guppy_affected.specs.Named.{HasOneOf}

abbrev pub told : List (Bor PackageId) → List (List ℕ)
told ids = map (λ id. id.now) ids

module _ (set : List (Bor PackageId)) where
  -- a look-up finds the ID that has the same text
  pub set_has : (a : Bor PackageId) → Any (λ x. bytes_eq x.now a.now ≡ true) set ↔ Contains (told set) a.now
  set_has a = (
    λ (k, x, within, found, h). subst (λ c. Contains (told set) c) ((bytes_eq-Decides x.now a.now).0 h) (Contains-map (λ (id : Bor PackageId). id.now) set x (k, within, found)),
    λ there. let one = from_map (λ (id : Bor PackageId). id.now) set a.now there in (one.1.0, one.0, one.1.1, one.1.2, (bytes_eq-Decides one.0.now a.now).1 one.2),
  )

  -- a set has the IDs of the list that it was made of
  pub set_made : (items : List (Bor PackageId)) → KeepsUpTo (λ (a b : Bor PackageId). bytes_eq a.now b.now) items set → (id : List ℕ) → Contains (told set) id ↔ Contains (told items) id
  set_made items kept id = (
    λ there. let one = from_map (λ (id : Bor PackageId). id.now) set id there in
        subst (λ c. Contains (told items) c) one.2 (Contains-map (λ (id : Bor PackageId). id.now) items one.0 (kept.no_other one.0 one.1)),
    λ there. let one = from_map (λ (id : Bor PackageId). id.now) items id there in
        let other = kept.each one.0 one.1 in
        subst (λ c. Contains (told set) c) (sym ((bytes_eq-Decides one.0.now other.1.now).0 other.4) ∙ one.2) (Contains-map (λ (id : Bor PackageId). id.now) set other.1 (other.0, other.2, other.3)),
  )

-- so packages have one of the IDs of both
pub named_alike : (packages : List PackageRecord) (ids others : List (List ℕ)) → ((id : List ℕ) → Contains ids id ↔ Contains others id) → (p : ℕ) → HasOneOf packages ids p ↔ HasOneOf packages others p
named_alike packages ids others same p = (λ (id, there, its). (id, (same id).0 there, its), λ (id, there, its). (id, (same id).1 there, its))
