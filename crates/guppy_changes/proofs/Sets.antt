-- Sets of marks and of IDs, as their elements are shown.
use Rattle.std.proofs.Common.{◌≡◌, ◌∙◌, sym, subst, Bool, true, List, map}
use Rattle.std.specs.Prelude.{◌↔◌, Contains}
use Rattle.std.specs.List.{Any}
use Rattle.guppy_data.specs.Sorted.{KeepsUpTo}
use Rattle.guppy_data.proofs.Mapped.{Contains-map, from_map}

module _ {A M : Type 0} (eq : A → A → Bool) (v : A → M) (equal : (a b : A) → eq a b ≡ true → v a ≡ v b) (same : (a b : A) → v a ≡ v b → eq a b ≡ true) where
  -- a look-up in a set finds what is shown the same
  pub set_has : (set : List A) (a : A) → Any (λ x. eq x a ≡ true) set ↔ Contains (map v set) (v a)
  set_has set a = (
    λ (k, x, within, found, h). subst (λ c. Contains (map v set) c) (equal x a h) (Contains-map v set x (k, within, found)),
    λ there. let one = from_map v set (v a) there in (one.1.0, one.0, one.1.1, one.1.2, same one.0 a one.2),
  )

  -- a set shows what the list that it was made of does
  pub set_made : (items set : List A) → KeepsUpTo eq items set → (m : M) → Contains (map v set) m ↔ Contains (map v items) m
  set_made items set kept m = (
    λ there. let one = from_map v set m there in
        subst (λ c. Contains (map v items) c) one.2 (Contains-map v items one.0 (kept.no_other one.0 one.1)),
    λ there. let one = from_map v items m there in
        let other = kept.each one.0 one.1 in
        subst (λ c. Contains (map v set) c) (sym (equal one.0 other.1 other.4) ∙ one.2) (Contains-map v set other.1 (other.0, other.2, other.3)),
  )
