-- Members of the workspace by their IDs, and what is kept of a list.
use Rattle.std.proofs.Common.{◌≡◌, ⊎_elim, ℕ, zero, suc, Bool, true, false, List, [], ◌∷◌, sym, ap, map, refl}
use Rattle.std.specs.Prelude.{◌&&◌, filter, is_some, cond, slice_get, IsSomeAnd}
use Rattle.std.specs.List.{list_any}
use Rattle.std.specs.Str.{bytes_eq}
use Rattle.std.proofs.lemmas.Slice.Eq.{bytes_eq-Decides}
use Rattle.guppy_data.specs.declared.records.PackageRecord.{PackageRecord}
use Rattle.guppy_graph.specs.Ids.{HasId}
use Rattle.guppy_graph.specs.Members.{IsMember, member_path}
use Rattle.guppy_program.specs.Answer.{is_member}
use Rattle.guppy_print.proofs.KnownIds.{either_true, first_true, second_true}

both_true : (a b : Bool) → (a && b) ≡ true → (a ≡ true) × (b ≡ true)
both_true true b h = (refl, h)
both_true false b h = absurd (cc)

and_true : (a b : Bool) → a ≡ true → b ≡ true → (a && b) ≡ true
and_true true b first second = second
and_true false b first second = absurd (cc)

-- an ID that is found among those of members is one of theirs
pub is_member-known : (id : List ℕ) (packages : List PackageRecord) → is_member packages id ≡ true → (p : ℕ) × HasId packages id p × IsMember packages p
is_member-known id [] h = absurd (cc)
is_member-known id (r ∷ rs) h = ⊎_elim
    (λ here. let both = both_true (bytes_eq id r.id) (is_some (member_path r)) here in (zero, sym ((bytes_eq-Decides id r.id).0 both.0), both.1))
    (λ later. let known = is_member-known id rs later in (suc known.0, known.1, known.2))
    (either_true (bytes_eq id r.id && is_some (member_path r)) (is_member rs id) h)

-- and one of theirs is found
pub known-is_member : (id : List ℕ) (packages : List PackageRecord) (p : ℕ) → HasId packages id p → IsMember packages p → is_member packages id ≡ true
known-is_member id [] p has member = absurd has
known-is_member id (r ∷ rs) zero has member = first_true _ (is_member rs id) (and_true _ _ ((bytes_eq-Decides id r.id).1 (sym has)) member)
known-is_member id (r ∷ rs) (suc p) has member = second_true (bytes_eq id r.id && is_some (member_path r)) _ (known-is_member id rs p has member)

-- an ID that is found among those of packages that pass a test is that of one that passes it
pub passing-known : (test : PackageRecord → Bool) (id : List ℕ) (packages : List PackageRecord) → list_any (λ r. bytes_eq id r.id && test r) packages ≡ true → (p : ℕ) × HasId packages id p × IsSomeAnd (slice_get packages p) (λ r. test r ≡ true)
passing-known test id [] h = absurd (cc)
passing-known test id (r ∷ rs) h = ⊎_elim
    (λ here. let both = both_true (bytes_eq id r.id) (test r) here in (zero, sym ((bytes_eq-Decides id r.id).0 both.0), both.1))
    (λ later. let known = passing-known test id rs later in (suc known.0, known.1, known.2))
    (either_true (bytes_eq id r.id && test r) (list_any (λ s. bytes_eq id s.id && test s) rs) h)

-- and that of one is found
pub known-passing : (test : PackageRecord → Bool) (id : List ℕ) (packages : List PackageRecord) (p : ℕ) → HasId packages id p → IsSomeAnd (slice_get packages p) (λ r. test r ≡ true) → list_any (λ r. bytes_eq id r.id && test r) packages ≡ true
known-passing test id [] p has passes = absurd has
known-passing test id (r ∷ rs) zero has passes = first_true _ (list_any (λ s. bytes_eq id s.id && test s) rs) (and_true _ _ ((bytes_eq-Decides id r.id).1 (sym has)) passes)
known-passing test id (r ∷ rs) (suc p) has passes = second_true (bytes_eq id r.id && test r) _ (known-passing test id rs p has passes)

-- two tests that pass alike answer the same
pub same_truth : (a b : Bool) → (a ≡ true → b ≡ true) → (b ≡ true → a ≡ true) → a ≡ b
same_truth true b there back = sym (there refl)
same_truth false true there back = absurd (cc (back refl))
same_truth false false there back = refl

-- a test of what items are seen as keeps the same of both
pub filter-seen : {X Y : Type 0} (test : Y → Bool) (seen : X → Y) (xs : List X) → map seen (filter (λ x. test (seen x)) xs) ≡ filter test (map seen xs)
filter-seen test seen [] = refl
filter-seen {X} test seen (x ∷ xs) = elim (test (seen x)) as (λ b. map seen (cond b (x ∷ filter (λ (y : X). test (seen y)) xs) (filter (λ (y : X). test (seen y)) xs)) ≡ cond b (seen x ∷ filter test (map seen xs)) (filter test (map seen xs))) [ true ↦ ap (λ l. seen x ∷ l) (filter-seen test seen xs) | false ↦ filter-seen test seen xs ]
