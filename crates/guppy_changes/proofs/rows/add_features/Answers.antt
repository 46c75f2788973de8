use Rattle.std.proofs.Common.{◌≡◌, Bor, List, ℕ, map, subst}
use Rattle.guppy_changes.specs.Adding.{Adds, OfSome}
use Rattle.guppy_changes.specs.Marks.{built_with}
use Rattle.guppy_changes.specs.Shown.{Marked, all_shown}
use Rattle.guppy_changes.proofs.Steps.{adds_of_none, adds_map_at, adds_map_all}
use Rattle.guppy_changes.proofs.rows.add_features.Goals as goal

pub loop-feature-init : goal.loop-feature-init
loop-feature-init c = adds_of_none _ (all_shown c.args.marks.now.items)

pub loop-feature-preserved : goal.loop-feature-preserved
loop-feature-preserved c =
    let R = λ (feature : List ℕ) (m : Marked). m ≡ (c.args.row.now.id.now, built_with c.args.row.now.platform.now feature) in
    adds_map_at {R = R} (λ (name : Bor (List ℕ)). name.now) c.as_slice-feature-items.result.now c.loop-feature.feature-index _ c.loop-feature-test.true c.loop-feature.invariant c.in_ok-add.ensures

pub returns : goal.returns
returns c =
    let R = λ (feature : List ℕ) (m : Marked). m ≡ (c.args.row.now.id.now, built_with c.args.row.now.platform.now feature) in
    subst (λ (names : List (Bor (List ℕ))). Adds (OfSome (map (λ name. name.now) names) R) (all_shown c.args.marks.now.items) (all_shown c.loop-feature.marks.items)) c.as_slice-feature-items.ensures.value
    (adds_map_all {R = R} (λ (name : Bor (List ℕ)). name.now) c.as_slice-feature-items.result.now c.loop-feature.feature-index c.loop-feature-test.false c.loop-feature.invariant)
