use Rattle.std.proofs.Common.{◌≡◌, [], ◌++◌, refl, ◌∙◌, arith}
use Rattle.guppy_search.proofs.Lists.{no_items, FoldsTo-append}
use Rattle.guppy_search.proofs.Members.{member_count-le-length}
use Rattle.guppy_search.proofs.SearchSteps.{Searching-begin, Searching-pop, Searching-end, taken_below, taken_room, MayGoOn-along}
use Rattle.guppy_search.proofs.dfs.search.search.Goals as goal

pub positions-init : goal.positions-init
positions-init g c =
    let s = c.seed.ensures in
    let room = c.requires.room in
    record {
      size = s.count ∙ c.requires.count;
      room = rw s.capacity room;
      same_place = refl;
      searched = ([], Searching-begin _ _ _ _ _ s.seeded, refl);
    }

pub show_links-requires-clause-position : goal.show_links-requires-clause-position
show_links-requires-clause-position g c =
    let s = c.positions.invariant in
    rw (← s.size) (taken_below _ _ _ _ s.searched.1.waits c.in-Some.ensures.items)

pub show_links-requires-clause-room : goal.show_links-requires-clause-room
show_links-requires-clause-room g c =
    let s = c.positions.invariant in
    taken_room _ _ _ _ _ _ _ s.searched.1.waits c.in-Some.ensures.items s.size s.room c.pop.ensures.capacity

pub show_links-requires-clause-ready : goal.show_links-requires-clause-ready
show_links-requires-clause-ready g c =
    let s = c.positions.invariant.searched in
    MayGoOn-along _ _ _ _ _ s.0 _ _ _ _ _ c.requires.ready
    (Searching-pop c.args.direction c.args.graph.now.links c.args.initials.now s.0 c.positions.set c.pop.new.self.items c.in-Some.position (rw c.in-Some.ensures.items at s.1)) s.2

pub positions-preserved : goal.positions-preserved
positions-preserved g c =
    let s = c.positions.invariant in
    let shows = c.show_links.ensures.shown in
    record {
      size = c.show_links.ensures.count;
      room = rw (c.show_links.ensures.capacity, c.pop.ensures.capacity) s.room;
      same_place = c.show_links.ensures.same_place ∙ s.same_place;
      searched = (
        s.searched.0 ++ shows.0,
        shows.2.after _ s.searched.0 (Searching-pop c.args.direction c.args.graph.now.links c.args.initials.now s.searched.0 c.positions.set c.pop.new.self.items c.in-Some.position (rw c.in-Some.ensures.items at s.searched.1)),
        FoldsTo-append _ _ s.searched.0 _ shows.0 _ s.searched.2 shows.1,
      );
    }

pub positions-smaller : goal.positions-smaller
positions-smaller g c =
    let before = member_count-le-length c.positions.set in
    let after = member_count-le-length c.show_links.new.set in
    let size = c.positions.invariant.size in
    let count = c.show_links.ensures.count in
    let balance = c.show_links.ensures.balance in
    omega (arith, c.in-Some.ensures.cases, c.positions.waiting.ok.0, c.pop.new.self.ok.0)

pub returns-clause-judged : goal.returns-clause-judged
returns-clause-judged g c =
    let s = c.positions.invariant.searched in
    let e : c.positions.waiting.items ≡ [] = no_items c.positions.waiting.items (let h = c.in_default.ensures.cases in omega (arith, c.positions.waiting.ok.0, h.0)) in
    (s.0, Searching-end _ _ _ _ _ (rw e at s.1), s.2)
