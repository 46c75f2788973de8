use Rattle.std.proofs.Common.{◌≤◌, ℕ, List, Bor, map, length, Option, None, Some}
use Rattle.std.specs.Prelude.{MatchOption, option_map}
use Rattle.std.proofs.lemmas.List.{length-map}
use Rattle.guppy_arguments.proofs.NearestName.{text_at, nearer, no_nearer, nearest_of_all}
use Rattle.guppy_arguments.proofs.nearest.nearest_of.Goals.{then-distance-least, else-distance-least}
use Rattle.guppy_arguments.proofs.nearest.nearest_of.Goals as goal

-- what holds of the text holds of it behind its reference
along : (N : Type 0) (S : List ℕ → Type 0) (o : Option (Bor (List ℕ))) → MatchOption (option_map (λ (name : Bor (List ℕ)). name.now) o) N S → MatchOption o N (λ name. S name.now)
along N S None h = h
along N S (Some name) h = h

pub loop-name-preserved : goal.loop-name-preserved
loop-name-preserved c =
    let word = c.args.word.now in
    let names = map (λ name. name.now) c.args.names.now in
    let k = c.loop-name.name-index in
    let near = option_map (λ name. name.now) c.loop-name.nearest in
    let distance = c.in_ok-distance.ensures.value in
    elim c.if-distance-least.branch [
      | then-distance-least w ↦
          let fewer = rw distance at w.if-distance-least.true in
          rw (w.nearest-is, w.least-is, distance) (nearer word names k c.loop-name.least _ (text_at c.args.names.now k _ c.loop-name-test.true) near c.loop-name.invariant fewer)
      | else-distance-least w ↦
          let more = rw distance at w.if-distance-least.false in
          rw (w.nearest-is, w.least-is) (no_nearer word names k c.loop-name.least _ (text_at c.args.names.now k _ c.loop-name-test.true) near c.loop-name.invariant more)
    ]

pub returns : goal.returns
returns c =
    let names = map (λ name. name.now) c.args.names.now in
    let count = length-map c.args.names.now (λ name. name.now) in
    let past : length names ≤ c.loop-name.name-index = rw count c.loop-name-test.false in
    along _ _ c.loop-name.nearest (nearest_of_all c.args.word.now names c.loop-name.name-index c.loop-name.least past (option_map (λ name. name.now) c.loop-name.nearest) c.loop-name.invariant)
