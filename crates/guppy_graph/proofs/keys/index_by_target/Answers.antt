use Rattle.std.proofs.Common.{ℕ, length, Option}
use Rattle.std.specs.declared.vec.Vec.{Vec}
use Rattle.std.specs.declared.alloc.Global.{Global}
use Rattle.std.proofs.lemmas.Result.{IfOk-weaker}
use Rattle.guppy_graph.proofs.Lists.{MatchOption-along}
use Rattle.guppy_graph.proofs.TargetIds.{targets_differ, target_repeats}
use Rattle.guppy_graph.proofs.keys.index_by_target.Goals as goal

pub returns-clause-repeat : goal.returns-clause-repeat
returns-clause-repeat c =
    let targets = c.args.targets.now in
    IfOk-weaker {X = Vec ℕ Global × Option ℕ} _ _ _ (λ made. MatchOption-along made.1 _ _ _ _ (targets_differ targets (length targets)) (target_repeats targets)) c.index_of.ensures.repeat
