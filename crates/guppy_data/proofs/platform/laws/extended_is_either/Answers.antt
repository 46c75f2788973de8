use Rattle.std.proofs.Common.{◌∙◌, ap}
use Rattle.std.proofs.lemmas.Result.{on_ok_weaker}
use Rattle.guppy_data.specs.Platform.{Status, status_value, recorded_status}
use Rattle.guppy_data.proofs.Statuses.{status_value-extended}
use Rattle.guppy_data.proofs.platform.laws.extended_is_either.Goals as goal

pub returns : goal.returns
returns g c =
    on_ok_weaker c.extend.result (λ is eval question. ap (λ (status : Status). status_value (g.E.TargetEval.answer eval) status question) is ∙ status_value-extended (g.E.TargetEval.answer eval) (recorded_status c.args.status.now) (recorded_status c.args.other.now) question) c.extend.ensures.extended
