use Rattle.std.proofs.Common.{◌≡◌, ℕ, Bool, true, List, length}
use Rattle.guppy.specs.Listed.{positions_listed, listed_left}
use Rattle.guppy.specs.Asked.{AreAnswered}
use Rattle.guppy.proofs.CallbackAnswers.{IsAskedSoFar}
use Rattle.guppy.proofs.set.PackageSet.filter_mut.Given as goal

abbrev pub invariant-loop-package : goal.invariant-loop-package
invariant-loop-package g l = record {
  answers : List (ℕ × Bool);
  so_far : IsAskedSoFar (goal.F-step g) l.self.graph (positions_listed l.fn.direction l.self) l.fn.callback (listed_left l.package-iterator) answers l.callback;
  kept : AreAnswered answers true l.kept;
  count : length l.kept ≡ length l.self.graph.packages;
}
