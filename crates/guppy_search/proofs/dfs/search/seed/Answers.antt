use Rattle.std.proofs.Common.{◌≡◌, true, false, inl, inr, ◌∷◌, length, refl, sym, ap, ◌∙◌, arith}
use Rattle.std.proofs.Math.ListN.{length-set, length-replicate}
use Rattle.guppy_search.specs.IxSet.{positions_in}
use Rattle.guppy_search.proofs.Members.{has-replicate}
use Rattle.guppy_search.proofs.SearchSteps.{Seeded-begin, Seeded-below, Seeded-known, Seeded-new, Waits-room}
use Rattle.guppy_search.proofs.dfs.search.seed.Goals as goal

pub initials-init : goal.initials-init
initials-init g c =
    let all : c.into_iter-ix-iterator.result ≡ positions_in c.args.initials.now = c.into_iter-ix-iterator.ensures.into_iter_gives ∙ c.ones-ix-items.ensures.positions in
    record {
      size = rw c.requires.set (length-replicate (length c.args.initials.now) false);
      capacity = refl;
      seeded = rw (c.requires.waiting, all, c.requires.set) (Seeded-begin c.args.initials.now _ (λ p h. let lacks = has-replicate (length c.args.initials.now) p in cc));
    }

pub include-requires-clause-in_range : goal.include-requires-clause-in_range
include-requires-clause-in_range g c =
    let s = c.initials.invariant in
    let e : c.initials.ix-iterator ≡ c.index.result ∷ c.next.new.self = c.in-Some.ensures.steps ∙ ap (λ n. n ∷ c.next.new.self) (sym c.index.ensures.position) in
    Seeded-below c.args.initials.now c.initials.set c.initials.waiting.items c.index.result c.next.new.self (sym s.size) (rw e at s.seeded)

pub include-requires-clause-room : goal.include-requires-clause-room
include-requires-clause-room g c = λ new.
    let s = c.initials.invariant in
    let e : c.initials.ix-iterator ≡ c.index.result ∷ c.next.new.self = c.in-Some.ensures.steps ∙ ap (λ n. n ∷ c.next.new.self) (sym c.index.ensures.position) in
    let below = Seeded-below c.args.initials.now c.initials.set c.initials.waiting.items c.index.result c.next.new.self (sym s.size) (rw e at s.seeded) in
    let h = Waits-room c.initials.set c.initials.waiting.items c.index.result below new s.seeded.waits in
    let size = s.size in
    let capacity = s.capacity in
    let room = c.requires.room in
    omega (arith, c.initials.waiting.ok.0)

pub initials-preserved : goal.initials-preserved
initials-preserved g c =
    let s = c.initials.invariant in
    let e : c.initials.ix-iterator ≡ c.index.result ∷ c.next.new.self = c.in-Some.ensures.steps ∙ ap (λ n. n ∷ c.next.new.self) (sym c.index.ensures.position) in
    let seeded = rw e at s.seeded in
    let below = Seeded-below c.args.initials.now c.initials.set c.initials.waiting.items c.index.result c.next.new.self (sym s.size) seeded in
    elim c.include.ensures.cases [
      | inl q ↦ record {
        size = rw q.1 s.size;
        capacity = c.include.ensures.capacity ∙ s.capacity;
        seeded = rw (q.1, q.2) (Seeded-known _ _ _ c.index.result _ q.0 seeded);
      }
      | inr q ↦ record {
        size = rw q.1 (length-set c.initials.set c.index.result true ∙ s.size);
        capacity = c.include.ensures.capacity ∙ s.capacity;
        seeded = rw (q.1, q.2) (Seeded-new _ _ _ c.index.result _ below q.0 seeded);
      }
    ]

pub returns : goal.returns
returns g c =
    let s = c.initials.invariant in
    let e = c.in-None.ensures.steps.0 in
    record { count = s.size; seeded = rw e at s.seeded; capacity = s.capacity }
