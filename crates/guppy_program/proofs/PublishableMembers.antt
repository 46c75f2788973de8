-- Members that can be published, by their IDs.
use Rattle.std.proofs.Common.{◌≡◌, sym, refl, subst, ℕ, zero, suc, ◌<◌, Bool, true, false, List, [], ◌∷◌, length, arith, Some, None}
use Rattle.std.specs.Prelude.{◌↔◌, not, Option, slice_get, IsSomeAnd, IsTrue}
use Rattle.guppy_data.specs.PackagePublish.{Publish, Everywhere, OnlyTo, recorded_publish}
use Rattle.guppy_data.specs.declared.records.PackageRecord.{PackageRecord}
use Rattle.guppy_graph.specs.Ids.{HasId, DistinctBelow}
use Rattle.guppy_program.specs.Publish.{is_somewhere, is_publishable}
use Rattle.guppy_print.proofs.FlaggedPackages.{one_place}
use Rattle.guppy_program.proofs.Membership.{passing-known, known-passing, same_truth}

pub somewhere : (p : Publish) → (p ≡ OnlyTo [] → ⊥) → is_somewhere p ≡ true
somewhere Everywhere listed = refl
somewhere (OnlyTo []) listed = absurd (listed refl)
somewhere (OnlyTo (name ∷ names)) listed = refl

pub not_nowhere : (p : Publish) → is_somewhere p ≡ true → p ≡ OnlyTo [] → ⊥
not_nowhere p is nowhere = let no : false ≡ true = subst (λ q. is_somewhere q ≡ true) nowhere is in absurd (cc no)

passing : (o : Option PackageRecord) (seen : Publish) → IsSomeAnd o (λ r. seen ≡ recorded_publish r.publish) → is_somewhere seen ≡ true → IsSomeAnd o (λ r. is_somewhere (recorded_publish r.publish) ≡ true)
passing None seen of is = absurd of
passing (Some r) seen of is = subst (λ s. is_somewhere s ≡ true) of is

passing_seen : (o : Option PackageRecord) (seen : Publish) → IsSomeAnd o (λ r. seen ≡ recorded_publish r.publish) → IsSomeAnd o (λ r. is_somewhere (recorded_publish r.publish) ≡ true) → is_somewhere seen ≡ true
passing_seen None seen of is = absurd of
passing_seen (Some r) seen of is = subst (λ s. is_somewhere s ≡ true) (sym of) is

not_true : (b : Bool) → (b ≡ true → ⊥) → not b ≡ true
not_true true h = absurd (h refl)
not_true false h = refl

true_not : (b : Bool) → not b ≡ true → b ≡ true → ⊥
true_not true is e = cc
true_not false is e = cc

-- where the one package with the ID can be published
pub answered : (packages : List PackageRecord) → DistinctBelow packages (length packages) → (id : List ℕ) (p : ℕ) → HasId packages id p → (seen : Publish) → IsSomeAnd (slice_get packages p) (λ r. seen ≡ recorded_publish r.publish) → (never : Bool) → IsTrue never ↔ (seen ≡ OnlyTo []) → not never ≡ is_publishable packages id
answered packages distinct id p has seen of never exact =
    let test : PackageRecord → Bool = λ r. is_somewhere (recorded_publish r.publish) in
    same_truth (not never) (is_publishable packages id)
    (λ is. known-passing test id packages p has (passing (slice_get packages p) seen of (somewhere seen (λ nowhere. true_not never is (exact.1 nowhere)))))
    (λ is. let known = passing-known test id packages is in
    let at = subst (λ q. IsSomeAnd (slice_get packages q) (λ r. test r ≡ true)) (one_place packages distinct id known.0 p known.1 has) known.2 in
    not_true never (λ never. not_nowhere seen (passing_seen (slice_get packages p) seen of at) (exact.0 never)))
