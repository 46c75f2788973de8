use Rattle.std.proofs.Common.{arith}
use Rattle.std.proofs.lemmas.Result.{on_ok_weaker}
use Rattle.std.proofs.lemmas.Map.Text.{text_keys}
use Rattle.guppy_metadata.proofs.gathered.add_feature.Goals as goal

pub returns : goal.returns
returns c = on_ok_weaker c.add_spec.result (λ added name. grind (arith, text_keys)) c.add_spec.ensures.added
