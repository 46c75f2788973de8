use Rattle.std.proofs.Common.{◌≡◌, ◌⊎◌, ℕ, ◌+◌, ◌<◌, ◌++◌, ◌∷◌, [], List, length, map, take, get_or, inl, inr, sym, ap, ◌∙◌, arith}
use Rattle.std.proofs.lemmas.List.{map_push, take_more, length-map}
use Rattle.std.proofs.lemmas.Bool.{eqb-true, eqb-false}
use Rattle.guppy_core.specs.declared.topo.finish.Frame.{Frame}
use Rattle.guppy_core.proofs.Cycles.{from_first_more, from_first_none}
use Rattle.guppy_core.proofs.Frames.{at_place}
use Rattle.guppy_core.proofs.PathSearch.{positions}
use Rattle.guppy_core.proofs.topo.cycle.positions_from.Goals.{then-not-is_empty+in_ok-push, then-not-is_empty-via-then-not-is_empty, then-not-is_empty-via-else-not-is_empty+then-frame-first, else-not-is_empty+else-frame-first}
use Rattle.guppy_core.proofs.topo.cycle.positions_from.Goals as goal

-- one frame more
one_more : (fs : List Frame) (k : ℕ) → k < length fs → positions (take (k + 1) fs) ≡ positions (take k fs) ++ (get_or fs k (at_place 0 0)).position ∷ []
one_more fs k h = ap positions (take_more fs k (at_place 0 0) h) ∙ map_push (λ (f : Frame). f.position) (take k fs) (get_or fs k (at_place 0 0))

pub loop-frame-preserved : goal.loop-frame-preserved
loop-frame-preserved g c =
    let index_of = g.Ix.IndexType.index_of in
    let more = one_more c.args.frames.now c.loop-frame.frame-index c.loop-frame-test.true in
    let x : ℕ = (get_or c.args.frames.now c.loop-frame.frame-index (at_place 0 0)).position in
    let xs : List ℕ = positions (take c.loop-frame.frame-index c.args.frames.now) in
    let len = length-map c.loop-frame.list.items g.Ix.IndexType.index_of in
    let ok = c.loop-frame.list.ok in
    elim c.if-not-is_empty.branch [
      | then-not-is_empty+in_ok-push w ↦
          let items = map_push g.Ix.IndexType.index_of c.loop-frame.list.items w.new.result ∙ ap (λ (n : ℕ). map g.Ix.IndexType.index_of c.loop-frame.list.items ++ n ∷ []) w.new.ensures in
          let begun : (0 < length (map g.Ix.IndexType.index_of c.loop-frame.list.items)) ⊎ ((get_or c.args.frames.now c.loop-frame.frame-index (at_place 0 0)).position ≡ c.args.first) = elim w.then-not-is_empty.branch [
            | then-not-is_empty-via-then-not-is_empty w' ↦ inl (let some = eqb-false _ _ (sym c.is_empty.ensures ∙ w'.if-not-is_empty.true) in omega arith)
            | then-not-is_empty-via-else-not-is_empty+then-frame-first w' ↦ inr w'.if-frame-first.true
          ] in
          rw (w.list-is, w.in_ok-push.ensures.items, items, more) (from_first_more c.args.first (get_or c.args.frames.now c.loop-frame.frame-index (at_place 0 0)).position (positions (take c.loop-frame.frame-index c.args.frames.now)) (map g.Ix.IndexType.index_of c.loop-frame.list.items) c.loop-frame.invariant begun)
      | else-not-is_empty+else-frame-first w ↦
          let none : length (map g.Ix.IndexType.index_of c.loop-frame.list.items) ≡ 0 = let no = eqb-true _ _ (sym c.is_empty.ensures ∙ w.if-not-is_empty.false) in omega arith in
          rw (w.list-is, more) (from_first_none c.args.first (get_or c.args.frames.now c.loop-frame.frame-index (at_place 0 0)).position (positions (take c.loop-frame.frame-index c.args.frames.now)) (map g.Ix.IndexType.index_of c.loop-frame.list.items) c.loop-frame.invariant none w.if-frame-first.false)
    ]
