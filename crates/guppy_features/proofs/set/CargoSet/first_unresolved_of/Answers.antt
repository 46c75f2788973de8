use Rattle.std.proofs.Common.{◌≡◌, ◌<◌, ◌≤◌, ℕ, rules, arith, length, Some}
use Rattle.std.specs.Prelude.{slice_get}
use Rattle.guppy_features.specs.Unresolved.{IsUnresolved}
use Rattle.guppy_features.proofs.Resolving.{all_more, below_count}
use Rattle.guppy_features.proofs.set.CargoSet.first_unresolved_of.Goals as goal

pub returns-then-is_unresolved : goal.returns-then-is_unresolved
returns-then-is_unresolved c = record {
  is = c.is_unresolved.ensures.0 c.if-is_unresolved.true;
  first = c.loop-place.invariant;
}

pub loop-place-preserved : goal.loop-place-preserved
loop-place-preserved c =
    all_more (λ (m : ℕ). ¬ IsUnresolved c.args.self.now c.args.position m) c.loop-place.place c.loop-place.invariant
    (λ u. let yes = c.is_unresolved.ensures.1 u in let no = c.if-is_unresolved.false in absurd (cc (yes, no)))

pub returns : goal.returns
returns c n u =
    let found : slice_get c.args.self.now.graph.packages c.args.position ≡ Some c.package_at.result.now = search rules in
    let count : length c.package_at.result.now.optional_deps.keys ≤ c.loop-place.place = omega arith in
    let below : n < length c.package_at.result.now.optional_deps.keys = below_count c.args.self.now c.args.position n c.package_at.result.now found u in
    let under : n < c.loop-place.place = omega (arith, count, below) in
    c.loop-place.invariant n under u
