use Rattle.std.proofs.Common.{◌<◌, true, false, inl, inr, [], ◌∷◌, ◌++◌, length, drop, refl, ◌∙◌, get_or, arith}
use Rattle.std.proofs.Math.ListN.{length-set}
use Rattle.std.proofs.lemmas.Bool.{false_from_ne_true}
use Rattle.std.specs.List.{Contains}
use Rattle.std.proofs.lemmas.Fn.{FoldsTo-push}
use Rattle.std.proofs.lemmas.List.{drop_all}
use Rattle.guppy_search.specs.Links.{far_end}
use Rattle.guppy_search.specs.IxSet.{has}
use Rattle.guppy_search.proofs.Lists.{Contains-first, drop_next}
use Rattle.guppy_search.proofs.Members.{member_count-lt-length}
use Rattle.guppy_search.proofs.Ends.{link_beside}
use Rattle.guppy_search.proofs.SearchSteps.{Shows-none, Shows-refused, Shows-known, Shows-new, balance-added, far_end_below}
use Rattle.guppy_search.proofs.dfs.search.show_links.Goals as goal

pub links-init : goal.links-init
links-init g c = record {
  size = c.requires.count;
  same_place = refl;
  balance = refl;
  capacity = refl;
  shown = ([], refl, Shows-none _ _ _ _ _);
}

pub visit-requires : goal.visit-requires
visit-requires g c =
    let row = c.links_at-row in
    let s = c.links.invariant in
    let ready = rw (← row.ensures.links) at c.requires.ready in
    let numbers = row.result.now in
    let n = get_or numbers c.links.place 0 in
    let left : Contains (drop c.links.place numbers) n = rw (drop_next numbers c.links.place c.links-test.true) (Contains-first n _) in
    ready.at s.shown.0 _ _ _ _ _ s.shown.2 left s.shown.1

pub links-preserved-then-not-visit : goal.links-preserved-then-not-visit
links-preserved-then-not-visit g c =
    let s = c.links.invariant in
    let row = c.links_at-row.result.now in
    let n = get_or row c.links.place 0 in
    let e = drop_next row c.links.place c.links-test.true in
    record {
      size = s.size;
      same_place = c.if-not-visit.ensures.same_place ∙ s.same_place;
      balance = s.balance;
      capacity = s.capacity;
      shown = (
        s.shown.0 ++ (n, false) ∷ [],
        FoldsTo-push _ _ s.shown.0 _ (n, false) _ s.shown.1 c.if-not-visit.ensures.visits,
        Shows-refused _ _ s.shown.0 _ _ _ _ _ _ n (rw e at s.shown.2),
      );
    }

pub include-requires-clause-in_range : goal.include-requires-clause-in_range
include-requires-clause-in_range g c =
    let at = link_beside c.args.graph.now.links c.args.direction c.args.position c.links.place c.links_at-row.result.now c.far_ends_at-far_ends.result.now c.links_at-row.ensures.links c.far_ends_at-far_ends.ensures.ends c.links-test.true in
    rw (at.far_is, c.links.invariant.size) (far_end_below c.args.direction c.args.graph.now.links _ _ at.link at.found c.far_ends_at-far_ends.ensures.graph.ends)

pub include-requires-clause-small : goal.include-requires-clause-small
include-requires-clause-small g c =
    let at = link_beside c.args.graph.now.links c.args.direction c.args.position c.links.place c.links_at-row.result.now c.far_ends_at-far_ends.result.now c.links_at-row.ensures.links c.far_ends_at-far_ends.ensures.ends c.links-test.true in
    let few = c.far_ends_at-far_ends.ensures.graph.few_nodes in
    let below = far_end_below c.args.direction c.args.graph.now.links _ _ at.link at.found c.far_ends_at-far_ends.ensures.graph.ends in
    rw at.far_is (omega arith)

pub include-requires-clause-room : goal.include-requires-clause-room
include-requires-clause-room g c = λ new.
    let at = link_beside c.args.graph.now.links c.args.direction c.args.position c.links.place c.links_at-row.result.now c.far_ends_at-far_ends.result.now c.links_at-row.ensures.links c.far_ends_at-far_ends.ensures.ends c.links-test.true in
    let far = get_or c.far_ends_at-far_ends.result.now c.links.place 0 in
    let s = c.links.invariant in
    let size = s.size in
    let count = c.requires.count in
    let capacity = s.capacity in
    let balance = s.balance in
    let room = c.requires.room in
    let below : far < length c.links.set = rw (at.far_is, s.size) (far_end_below c.args.direction c.args.graph.now.links _ _ at.link at.found c.far_ends_at-far_ends.ensures.graph.ends) in
    let lacks = member_count-lt-length c.links.set far below (false_from_ne_true (has c.links.set far) new) in
    omega (arith, c.links.waiting.ok.0)

pub links-preserved : goal.links-preserved
links-preserved g c =
    let at = link_beside c.args.graph.now.links c.args.direction c.args.position c.links.place c.links_at-row.result.now c.far_ends_at-far_ends.result.now c.links_at-row.ensures.links c.far_ends_at-far_ends.ensures.ends c.links-test.true in
    let s = c.links.invariant in
    let row = c.links_at-row.result.now in
    let n = get_or row c.links.place 0 in
    let link = at.link in
    let far = far_end c.args.direction link in
    let e = drop_next row c.links.place c.links-test.true in
    let shows = rw e at s.shown.2 in
    let k = rw at.far_is at c.include.ensures.cases in
    let same_place = c.if-not-visit.ensures.same_place ∙ s.same_place in
    let capacity = c.include.ensures.capacity ∙ s.capacity in
    let steps = FoldsTo-push _ _ s.shown.0 _ (n, true) _ s.shown.1 c.if-not-visit.ensures.visits in
    elim k [
      | inl q ↦ record {
        size = rw q.1 s.size;
        same_place = same_place;
        balance = rw (q.1, q.2) s.balance;
        capacity = capacity;
        shown = (s.shown.0 ++ (n, true) ∷ [], steps, rw (q.1, q.2) (Shows-known _ _ s.shown.0 _ _ _ _ _ _ n link at.found q.0 shows));
      }
      | inr q ↦
          let below : far < length c.links.set = rw s.size (far_end_below c.args.direction c.args.graph.now.links _ _ at.link at.found c.far_ends_at-far_ends.ensures.graph.ends) in
          record {
            size = rw q.1 (length-set c.links.set far true ∙ s.size);
            same_place = same_place;
            balance = rw (q.1, q.2) (balance-added c.links.set c.links.waiting.items far _ _ below q.0 s.balance);
            capacity = capacity;
            shown = (s.shown.0 ++ (n, true) ∷ [], steps, rw (q.1, q.2) (Shows-new _ _ s.shown.0 _ _ _ _ _ _ n link at.found below q.0 shows));
          }
    ]

pub returns : goal.returns
returns g c =
    let s = c.links.invariant in
    let row = c.links_at-row in
    let e = drop_all c.links.place row.result.now c.links-test.false in
    record {
      count = s.size;
      same_place = s.same_place;
      shown = (s.shown.0, s.shown.1, rw (← row.ensures.links) (rw e at s.shown.2));
      balance = s.balance;
      capacity = s.capacity;
    }
