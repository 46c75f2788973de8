use Rattle.std.proofs.Common.{◌≡◌, [], ◌∷◌, ◌++◌, refl, sym, ◌∙◌, arith}
use Rattle.std.proofs.lemmas.Fn.{FoldsTo-push}
use Rattle.std.proofs.lemmas.List.Elements.{Contains-push}
use Rattle.guppy_search.specs.Buffered.Question.{discover}
use Rattle.guppy_search.proofs.Exits.{on_err}
use Rattle.guppy_search.proofs.Lists.{no_items, FoldsTo-append}
use Rattle.guppy_search.proofs.Members.{member_count-le-length}
use Rattle.guppy_search.proofs.SearchSteps.{taken_below, taken_room}
use Rattle.guppy_search.proofs.BufferedSteps.{Buffering-begin, Buffering-followed, Buffering-discover_error, Buffering-end, MayAskOn-along}
use Rattle.guppy_search.proofs.dfs.buffered.search.Goals as goal

pub positions-init : goal.positions-init
positions-init g c = record {
  size = c.requires.count;
  room = c.requires.room;
  same_place = refl;
  searched = ([], rw c.requires.waiting (Buffering-begin _ _ _), refl);
}

pub new-requires : goal.new-requires
new-requires g c =
    let s = c.positions.invariant in
    let below = taken_below _ _ _ _ s.searched.1.waits c.in-Some.ensures.items in
    let size = s.size in
    let few = c.requires.graph.few_nodes in
    omega arith

pub discover-requires-clause-node : goal.discover-requires-clause-node
discover-requires-clause-node g c =
    let s = c.positions.invariant in
    rw (c.new.ensures, ← s.size) (taken_below _ _ _ _ s.searched.1.waits c.in-Some.ensures.items)

pub discover-requires-clause-ready : goal.discover-requires-clause-ready
discover-requires-clause-ready g c =
    let s = c.positions.invariant.searched in
    let b = rw c.in-Some.ensures.items at s.1 in
    let waited = Contains-push c.pop.new.self.items c.in-Some.position in
    rw c.new.ensures (c.requires.ready.at_position s.0 _ c.in-Some.position b.orderly s.2 ((b.included _).0 (b.waits.in_set _ waited)) (b.undiscovered _ waited))

pub ask_links-requires-clause-ready : goal.ask_links-requires-clause-ready
ask_links-requires-clause-ready g c =
    let s = c.positions.invariant in
    let k = c.follow_all.ensures.added in
    let answered = rw c.new.ensures at c.in_ok-handed.ensures.discovers in
    MayAskOn-along _ _ _ _ _ _ (s.searched.0 ++ (discover c.in-Some.position, c.in_ok-handed.handed.items) ∷ []) _ _ _ _ _ c.requires.ready
    (Buffering-followed _ _ _ s.searched.0 _ _ _ _ c.in_ok-handed.ensures.links k.2 _ _ _ c.in-Some.position c.in-Some.ensures.items k.1 c.follow_all.ensures.balance s.searched.1)
    (FoldsTo-push _ _ s.searched.0 _ (discover c.in-Some.position, c.in_ok-handed.handed.items) _ s.searched.2 answered)

pub returns-in_err-handed-clause-refused : goal.returns-in_err-handed-clause-refused
returns-in_err-handed-clause-refused g c =
    let s = c.positions.invariant.searched in
    let error = rw c.new.ensures at c.in_err-handed.ensures.error in
    on_err c.from_residual.result (Buffering-discover_error _ _ _ _ s.0 _ c.pop.new.self.items _ _ _ s.2 c.in-Some.position (rw c.in-Some.ensures.items at s.1) error)

pub follow_all-requires-clause-room : goal.follow_all-requires-clause-room
follow_all-requires-clause-room g c =
    let s = c.positions.invariant in
    taken_room _ _ _ _ _ _ _ s.searched.1.waits c.in-Some.ensures.items s.size s.room c.pop.ensures.capacity

pub ask_links-requires-clause-position : goal.ask_links-requires-clause-position
ask_links-requires-clause-position g c =
    let s = c.positions.invariant in
    rw (← s.size) (taken_below _ _ _ _ s.searched.1.waits c.in-Some.ensures.items)

pub ask_links-requires-clause-room : goal.ask_links-requires-clause-room
ask_links-requires-clause-room g c =
    let s = c.positions.invariant in
    let room = taken_room _ _ _ _ _ _ _ s.searched.1.waits c.in-Some.ensures.items s.size s.room c.pop.ensures.capacity in
    let capacity = c.follow_all.ensures.capacity in
    let count = c.follow_all.ensures.count in
    let balance = c.follow_all.ensures.balance in
    omega arith

-- the position is discovered, and the links handed back are followed
pub returns-in_err-ask_links-clause-refused : goal.returns-in_err-ask_links-clause-refused
returns-in_err-ask_links-clause-refused g c =
    let s = c.positions.invariant in
    let k = c.follow_all.ensures.added in
    let answered = rw c.new.ensures at c.in_ok-handed.ensures.discovers in
    on_err c.from_residual-in_err-ask_links.result (
    c.in_err-ask_links.ensures.refused.after _ (s.searched.0 ++ (discover c.in-Some.position, c.in_ok-handed.handed.items) ∷ []) _
    (Buffering-followed _ _ _ s.searched.0 _ _ _ _ c.in_ok-handed.ensures.links k.2 _ _ _ c.in-Some.position c.in-Some.ensures.items k.1 c.follow_all.ensures.balance s.searched.1)
    (FoldsTo-push _ _ s.searched.0 _ (discover c.in-Some.position, c.in_ok-handed.handed.items) _ s.searched.2 answered)
    )

pub positions-preserved : goal.positions-preserved
positions-preserved g c =
    let s = c.positions.invariant in
    let k = c.follow_all.ensures.added in
    let answered = rw c.new.ensures at c.in_ok-handed.ensures.discovers in
    let asked = c.in_ok-ask_links.ensures.asked in
    let before = s.searched.0 ++ (discover c.in-Some.position, c.in_ok-handed.handed.items) ∷ [] in
    record {
      size = c.ask_links.ensures.count;
      room = rw (c.ask_links.ensures.capacity, c.follow_all.ensures.capacity, c.pop.ensures.capacity) s.room;
      same_place = c.ask_links.ensures.same_place ∙ (c.in_ok-handed.ensures.same_place ∙ s.same_place);
      searched = (
        before ++ asked.0,
        asked.2.after _ before (Buffering-followed _ _ _ s.searched.0 _ _ _ _ c.in_ok-handed.ensures.links k.2 _ _ _ c.in-Some.position c.in-Some.ensures.items k.1 c.follow_all.ensures.balance s.searched.1),
        FoldsTo-append _ _ before _ asked.0 _ (FoldsTo-push _ _ s.searched.0 _ (discover c.in-Some.position, c.in_ok-handed.handed.items) _ s.searched.2 answered) asked.1,
      );
    }

pub positions-smaller : goal.positions-smaller
positions-smaller g c =
    let size = c.ask_links.ensures.count ∙ sym c.positions.invariant.size in
    let balance = c.ask_links.ensures.balance in
    let followed = c.follow_all.ensures.balance in
    let before = member_count-le-length c.positions.set in
    let after = member_count-le-length c.ask_links.new.set in
    omega (arith, c.in-Some.ensures.cases, c.positions.waiting.ok.0, c.pop.new.self.ok.0, c.follow_all.new.waiting.ok.0)

pub returns-clause-judged : goal.returns-clause-judged
returns-clause-judged g c =
    let s = c.positions.invariant.searched in
    let e : c.positions.waiting.items ≡ [] = no_items c.positions.waiting.items (let h = c.in_default.ensures.cases in omega (arith, c.positions.waiting.ok.0, h.0)) in
    (s.0, Buffering-end _ _ _ _ _ (rw e at s.1), s.2)
