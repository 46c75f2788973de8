-- The place of a number in a list.
use Rattle.std.proofs.Common.{◌≡◌, ℕ, suc, zero, ◌+◌, ◌<◌, ◌≤◌, true, false, cond, List, [], ◌∷◌, length, get_or, refl, sym, ap, ◌∙◌, arith, Some}
use Rattle.std.specs.Prelude.{slice_get, ◌==◌}
use Rattle.std.proofs.lemmas.Bool.{eqb-true, eqb-false}
use Rattle.std.proofs.lemmas.Option.{get_or_from_slice_get}
use Rattle.guppy_core.specs.Listing.{IsOnce, IsListing, IsInverse, place_in}

-- who stands in the list stands at its place
place_stands : (xs : List ℕ) (k x : ℕ) → slice_get xs k ≡ Some x → slice_get xs (place_in xs x) ≡ Some x
place_stands [] k x h = absurd (cc)
place_stands (y ∷ ys) zero x h =
    elim (y == x) as (λ b. (y == x) ≡ b → slice_get (y ∷ ys) (cond b 0 (1 + place_in ys x)) ≡ Some x) [
      | true ↦ λ e. h
      | false ↦ λ e. absurd (eqb-false y x e (let q : y ≡ x = cc in q))
    ] refl
place_stands (y ∷ ys) (suc k) x h =
    elim (y == x) as (λ b. (y == x) ≡ b → slice_get (y ∷ ys) (cond b 0 (1 + place_in ys x)) ≡ Some x) [
      | true ↦ λ e. ap Some (eqb-true y x e)
      | false ↦ λ e. let q : 1 + place_in ys x ≡ suc (place_in ys x) = omega arith in rw q (place_stands ys k x h)
    ] refl

-- the place of what stands once is where it stands
pub place_at : (xs : List ℕ) (k x : ℕ) → IsOnce xs → slice_get xs k ≡ Some x → place_in xs x ≡ k
place_at xs k x once h = once (place_in xs x) k x (place_stands xs k x h) h

-- the place of what stands nowhere is the length
pub place_missing : (xs : List ℕ) (x : ℕ) → ((i : ℕ) → slice_get xs i ≡ Some x → ⊥) → place_in xs x ≡ length xs
place_missing [] x none = refl
place_missing (y ∷ ys) x none =
    elim (y == x) as (λ b. (y == x) ≡ b → cond b 0 (1 + place_in ys x) ≡ suc (length ys)) [
      | true ↦ λ e. absurd (none 0 (ap Some (eqb-true y x e)))
      | false ↦ λ e. let r = place_missing ys x (λ i h. none (suc i) h) in omega arith
    ] refl

-- what the inverse of a listing holds
module _ (order index : List ℕ) (t : IsListing (length order) order) (m : IsInverse order index) (p : ℕ) where
  -- the inverse of a listing tells where each position stands
  pub index_at : p < length order → (v : ℕ) → v ≡ get_or index p v → slice_get order v ≡ Some p
  index_at h v is =
      let at = t.all p h in
      let k : v ≡ at.0 = is ∙ get_or_from_slice_get index p at.0 v (m.place at.0 p at.1) in
      rw k at.1

  -- so it tells the place
  pub rank_found : p < length index → (v : ℕ) → v ≡ get_or index p v → v ≡ place_in order p
  rank_found h v is = let e = m.count in let l : p < length order = omega arith in sym (place_at order v p t.once (index_at l v is))

  -- and its length is the place of what is no position
  pub rank_missing : length index ≤ p → length index ≡ place_in order p
  rank_missing h = let e = m.count in m.count ∙ sym (place_missing order p (λ i a. let b = t.below i p a in absurd (omega arith)))
