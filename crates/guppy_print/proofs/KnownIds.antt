-- The IDs that packages have.
use Rattle.std.proofs.Common.{◌≡◌, ℕ, zero, suc, true, List, [], ◌∷◌, sym, ⊎_elim, ◌⊎◌, inl, inr, Bool, false, ◌||◌, refl}
use Rattle.std.specs.Str.{bytes_eq}
use Rattle.std.proofs.lemmas.Slice.Eq.{bytes_eq-Decides}
use Rattle.guppy_data.specs.declared.records.PackageRecord.{PackageRecord}
use Rattle.guppy_graph.specs.Ids.{IsKnown}
use Rattle.guppy_command.specs.Ids.{has_id}

pub either_true : (a b : Bool) → (a || b) ≡ true → (a ≡ true) ⊎ (b ≡ true)
either_true true b h = inl refl
either_true false b h = inr h

pub first_true : (a b : Bool) → a ≡ true → (a || b) ≡ true
first_true true b h = refl
first_true false b h = absurd (cc)

pub second_true : (a b : Bool) → b ≡ true → (a || b) ≡ true
second_true true b h = refl
second_true false b h = h

-- an ID that is found among the packages is one of theirs
pub has_id-known : (id : List ℕ) (packages : List PackageRecord) → has_id id packages ≡ true → IsKnown packages id
has_id-known id [] h = absurd (cc)
has_id-known id (r ∷ rs) h = ⊎_elim
    (λ here. (zero, sym ((bytes_eq-Decides id r.id).0 here)))
    (λ later. let known = has_id-known id rs later in (suc known.0, known.1))
    (either_true (bytes_eq id r.id) (has_id id rs) h)

-- and one of theirs is found
pub known-has_id : (id : List ℕ) (packages : List PackageRecord) → IsKnown packages id → has_id id packages ≡ true
known-has_id id [] (p, has) = absurd has
known-has_id id (r ∷ rs) (zero, has) = first_true (bytes_eq id r.id) (has_id id rs) ((bytes_eq-Decides id r.id).1 (sym has))
known-has_id id (r ∷ rs) (suc p, has) = second_true (bytes_eq id r.id) (has_id id rs) (known-has_id id rs (p, has))
