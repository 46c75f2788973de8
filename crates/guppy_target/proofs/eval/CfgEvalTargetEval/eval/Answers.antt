use Rattle.std.proofs.Common.{◌≡◌, rules}
use Rattle.guppy_target.specs.Answer.{answer_of}
use Rattle.guppy_target.proofs.Evaluation.{answered}
use Rattle.guppy_target.proofs.eval.CfgEvalTargetEval.eval.Goals as goal

pub returns-clause-exact : goal.returns-clause-exact
returns-clause-exact c b =
    let is : c.answer_of.result ≡ answer_of c.args.spec.now c.args.platform.now = search rules in
    rw is (answered c.args.spec.now c.args.platform.now b)
