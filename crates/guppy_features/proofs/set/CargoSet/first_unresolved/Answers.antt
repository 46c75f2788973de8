use Rattle.std.proofs.Common.{◌≡◌, ◌<◌, ◌≤◌, ℕ, ap, arith, length}
use Rattle.guppy_features.specs.Questions.{Question}
use Rattle.guppy_features.specs.Unresolved.{AreResolvedOf}
use Rattle.guppy_features.proofs.Resolving.{all_more, below_packages}
use Rattle.guppy_features.proofs.set.CargoSet.first_unresolved.Goals as goal

pub returns-in-Some : goal.returns-in-Some
returns-in-Some c = record {
  here = rw c.in-Some.is at c.in_ok-place.ensures;
  before = c.loop-position.invariant;
}

pub loop-position-preserved : goal.loop-position-preserved
loop-position-preserved c =
    all_more (λ (o : ℕ). AreResolvedOf c.args.self.now o) c.loop-position.position c.loop-position.invariant
    (rw c.in_default.is at c.in_ok-place.ensures)

pub returns : goal.returns
returns c o n u =
    let same : length c.asked.result.graph.now.packages ≡ length c.args.self.now.graph.packages = ap (λ (x : Question). length x.graph.packages) c.asked.ensures in
    let count : length c.args.self.now.graph.packages ≤ c.loop-position.position = omega (arith, same) in
    let below : o < length c.args.self.now.graph.packages = below_packages c.args.self.now o n u in
    let under : o < c.loop-position.position = omega (arith, count, below) in
    c.loop-position.invariant o under n u
