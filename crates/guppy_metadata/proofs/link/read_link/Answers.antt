use Rattle.guppy_metadata.proofs.Turns.{if_ok}
use Rattle.guppy_metadata.proofs.link.read_link.Goals as goal

pub returns : goal.returns
returns c =
    let told = c.in_ok-resolved.ensures in
    if_ok _ _ _ c.add_resolved.result c.ok.result c.ok.ensures.value (λ _ is. (told.0, told.1, is.0, is.1, is.2 told.0 told.2)) c.add_resolved.ensures.added
