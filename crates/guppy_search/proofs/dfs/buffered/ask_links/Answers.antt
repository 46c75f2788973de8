use Rattle.std.proofs.Common.{◌≡◌, ℕ, ◌+◌, List, [], ◌∷◌, ◌++◌, length, drop, get_or, refl, ap, ◌∙◌, arith}
use Rattle.std.specs.List.{Contains}
use Rattle.std.proofs.lemmas.Fn.{FoldsTo-push}
use Rattle.std.proofs.lemmas.List.{drop_all}
use Rattle.guppy_search.specs.IxSet.{member_count}
use Rattle.guppy_search.specs.Buffered.Question.{filter}
use Rattle.guppy_search.proofs.Exits.{on_err}
use Rattle.guppy_search.proofs.Lists.{Contains-first, drop_next}
use Rattle.guppy_search.proofs.Rows.{row_within}
use Rattle.guppy_search.proofs.BufferedSteps.{Takes-none, Takes-filtered, Stops-filter}
use Rattle.guppy_search.proofs.dfs.buffered.ask_links.Goals as goal

pub links-init : goal.links-init
links-init g c = record {
  size = c.requires.count;
  same_place = refl;
  balance = refl;
  capacity = refl;
  asked = ([], refl, Takes-none _ _ _ _ _);
}

pub filter-requires-clause-link : goal.filter-requires-clause-link
filter-requires-clause-link g c =
    let row = c.links_at-number-items in
    row_within _ _ _ row.result.now row.ensures.links c.links.number-index 0 c.links-test.true

pub filter-requires-clause-ready : goal.filter-requires-clause-ready
filter-requires-clause-ready g c =
    let row = c.links_at-number-items in
    let s = c.links.invariant.asked in
    let ready = rw (← row.ensures.links) at c.requires.ready in
    let numbers = row.result.now in
    let n = get_or numbers c.links.number-index 0 in
    let left : Contains (drop c.links.number-index numbers) n = rw (drop_next numbers c.links.number-index c.links-test.true) (Contains-first n _) in
    ready.at s.0 _ _ _ _ _ s.2 left s.1

pub returns-in_err-handed-clause-refused : goal.returns-in_err-handed-clause-refused
returns-in_err-handed-clause-refused g c =
    let row = c.links_at-number-items in
    let s = c.links.invariant.asked in
    let e = drop_next row.result.now c.links.number-index c.links-test.true in
    on_err c.from_residual.result (rw (← row.ensures.links) (Stops-filter _ _ s.0 _ _ _ _ _ _ _ _ _ _ _ s.1 (rw e at s.2) c.in_err-handed.ensures.error))

pub follow_all-requires-clause-room : goal.follow_all-requires-clause-room
follow_all-requires-clause-room g c =
    let s = c.links.invariant in
    let size = s.size in
    let count = c.requires.count in
    let balance = s.balance in
    let capacity = s.capacity in
    let room = c.requires.room in
    omega (arith, c.links.waiting.ok.0, c.args.waiting.now.ok.0)

pub links-preserved : goal.links-preserved
links-preserved g c =
    let s = c.links.invariant in
    let row = c.links_at-number-items.result.now in
    let n = get_or row c.links.number-index 0 in
    let e = drop_next row c.links.number-index c.links-test.true in
    let k = c.follow_all.ensures.added in
    let balance : length (c.links.waiting.items ++ k.0) + member_count c.links.set ≡ length c.links.waiting.items + member_count c.follow_all.new.set =
    let same = ap (λ (ps : List ℕ). length ps) k.1 in
    let b = c.follow_all.ensures.balance in
    omega (arith, c.links.waiting.ok.0, c.follow_all.new.waiting.ok.0) in
    record {
      size = c.follow_all.ensures.count ∙ s.size;
      same_place = c.in_ok-handed.ensures.same_place ∙ s.same_place;
      balance = let before = s.balance in let b = c.follow_all.ensures.balance in omega (arith, c.links.waiting.ok.0, c.follow_all.new.waiting.ok.0);
      capacity = c.follow_all.ensures.capacity ∙ s.capacity;
      asked = (
        s.asked.0 ++ (filter n, c.in_ok-handed.handed.items) ∷ [],
        FoldsTo-push _ _ s.asked.0 _ (filter n, c.in_ok-handed.handed.items) _ s.asked.1 c.in_ok-handed.ensures.filters,
        rw k.1 (Takes-filtered _ _ s.asked.0 _ _ _ _ _ _ _ c.in_ok-handed.ensures.links k.2 _ balance n _ (rw e at s.asked.2)),
      );
    }

pub returns-clause-asked : goal.returns-clause-asked
returns-clause-asked g c =
    let s = c.links.invariant.asked in
    let row = c.links_at-number-items in
    let e = drop_all c.links.number-index row.result.now c.links-test.false in
    (s.0, s.1, rw (← row.ensures.links) (rw e at s.2))
