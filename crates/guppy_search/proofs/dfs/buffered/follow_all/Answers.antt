use Rattle.std.proofs.Common.{◌≡◌, ◌+◌, ◌<◌, inl, inr, true, [], ◌∷◌, ◌++◌, length, take, get_or, refl, sym, ap, ◌∙◌, append_assoc, arith}
use Rattle.std.proofs.Math.ListN.{length-set}
use Rattle.std.proofs.lemmas.Bool.{false_from_ne_true}
use Rattle.std.proofs.lemmas.List.{append-nil, take_all, take_more}
use Rattle.guppy_search.specs.Links.{far_end, seen_link}
use Rattle.guppy_search.specs.IxSet.{has}
use Rattle.guppy_search.proofs.Members.{member_count-lt-length}
use Rattle.guppy_search.proofs.LinkEnds.{far-seen}
use Rattle.guppy_search.proofs.SearchSteps.{balance-added, far_end_below}
use Rattle.guppy_search.proofs.FollowedLinks.{Adds-none, Adds-known, Adds-new}
use Rattle.guppy_search.proofs.dfs.buffered.follow_all.Goals as goal

pub include-requires-clause-in_range : goal.include-requires-clause-in_range
include-requires-clause-in_range g c =
    rw ((far-seen c.args.direction c.link.result _ c.far_end-far_end.ensures), c.loop-number.invariant.size, c.requires.count) (far_end_below c.args.direction c.args.graph.now.links _ _ (seen_link c.link.result) c.link.ensures.link c.link.ensures.graph.ends)

pub include-requires-clause-small : goal.include-requires-clause-small
include-requires-clause-small g c =
    let few = c.link.ensures.graph.few_nodes in
    let below = far_end_below c.args.direction c.args.graph.now.links _ _ (seen_link c.link.result) c.link.ensures.link c.link.ensures.graph.ends in
    rw (far-seen c.args.direction c.link.result _ c.far_end-far_end.ensures) (omega arith)

pub include-requires-clause-room : goal.include-requires-clause-room
include-requires-clause-room g c = λ new.
    let s = c.loop-number.invariant in
    let size = s.size in
    let capacity = s.capacity in
    let balance = s.balance in
    let room = c.requires.room in
    let below : c.far_end-far_end.result < length c.loop-number.set = rw ((far-seen c.args.direction c.link.result _ c.far_end-far_end.ensures), s.size, c.requires.count) (far_end_below c.args.direction c.args.graph.now.links _ _ (seen_link c.link.result) c.link.ensures.link c.link.ensures.graph.ends) in
    let lacks = member_count-lt-length c.loop-number.set c.far_end-far_end.result below (false_from_ne_true (has c.loop-number.set c.far_end-far_end.result) new) in
    omega (arith, c.loop-number.waiting.ok.0, c.args.waiting.now.ok.0)

pub loop-number-init : goal.loop-number-init
loop-number-init g c = record { size = refl; capacity = refl; balance = refl; added = ([], sym (append-nil _), Adds-none _ _ _) }

pub loop-number-preserved : goal.loop-number-preserved
loop-number-preserved g c =
    let s = c.loop-number.invariant in
    let items = c.deref-number-items.result.now in
    let n = get_or items c.loop-number.number-index 0 in
    let link = seen_link c.link.result in
    let far = far_end c.args.direction link in
    let more : take (c.loop-number.number-index + 1) items ≡ take c.loop-number.number-index items ++ n ∷ [] = take_more items c.loop-number.number-index 0 c.loop-number-test.true in
    let k = rw (far-seen c.args.direction c.link.result _ c.far_end-far_end.ensures) at c.include.ensures.cases in
    elim k [
      | inl q ↦ record {
        size = rw q.1 s.size;
        capacity = c.include.ensures.capacity ∙ s.capacity;
        balance = rw (q.1, q.2) s.balance;
        added = (s.added.0, q.2 ∙ s.added.1, rw (q.1, more) (Adds-known _ _ _ _ _ _ n link c.link.ensures.link q.0 s.added.2));
      }
      | inr q ↦
          let below : far < length c.loop-number.set = rw (s.size, c.requires.count) (far_end_below c.args.direction c.args.graph.now.links _ _ link c.link.ensures.link c.link.ensures.graph.ends) in
          record {
            size = rw q.1 (length-set c.loop-number.set far true ∙ s.size);
            capacity = c.include.ensures.capacity ∙ s.capacity;
            balance = rw (q.1, q.2) (balance-added c.loop-number.set c.loop-number.waiting.items far _ _ below q.0 s.balance);
            added = (
              s.added.0 ++ far ∷ [],
              q.2 ∙ ap (λ ps. ps ++ far ∷ []) s.added.1 ∙ append_assoc _ s.added.0 (far ∷ []),
              rw (q.1, more) (Adds-new _ _ _ _ _ _ n link c.link.ensures.link below q.0 s.added.2),
            );
          }
    ]

pub returns : goal.returns
returns g c =
    let s = c.loop-number.invariant in
    let balance = s.balance in
    let all = take_all c.loop-number.number-index c.deref-number-items.result.now c.loop-number-test.false ∙ c.deref-number-items.ensures.value in
    record {
      count = s.size;
      added = (s.added.0, s.added.1, rw (← all) s.added.2);
      balance = omega (arith, c.loop-number.waiting.ok.0, c.args.waiting.now.ok.0);
      capacity = s.capacity;
    }
