use Rattle.guppy_folders.proofs.Sets.{set_has}
use Rattle.guppy_folders.proofs.folders.is_one_of.Goals as goal

pub returns : goal.returns
returns c =
    let has = rw c.in_ok-parts.ensures at (set_has c.args.folders.now c.in_ok-parts.parts) in
    (λ h. has.0 (c.contains.ensures.0 h), λ k. c.contains.ensures.1 (has.1 k))
