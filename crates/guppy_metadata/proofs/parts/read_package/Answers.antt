use Rattle.guppy_metadata.proofs.Options.{if_some}
use Rattle.guppy_metadata.proofs.parts.read_package.Goals as goal

pub returns : goal.returns
returns c =
    let told = c.in_ok-parts.ensures in
    if_some c.package_told.result (λ _ added. (told.0, told.1, added.0, added.1, added.2 told.0 told.2)) c.package_told.ensures
