use Rattle.guppy_metadata.proofs.Options.{if_some}
use Rattle.guppy_metadata.proofs.resolved.read_usage.Goals as goal

pub returns : goal.returns
returns c =
    let were = c.in_ok-read_asked.ensures in
    if_some c.plain_usage.result (λ usage tells. (were.0, were.1, tells were.0 were.2 were.3)) c.plain_usage.ensures
