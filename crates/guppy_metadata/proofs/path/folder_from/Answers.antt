use Rattle.std.proofs.Common.{[], ◌∙◌}
use Rattle.guppy_metadata.proofs.path.folder_from.Goals as goal

pub returns : goal.returns
returns c =
    let none = rw c.in_default.is at c.in_ok-path.ensures in
    rw (none, ← c.components.ensures) (c.new-2.ensures ∙ (c.in_ok-push_folder.ensures [] c.new-path.ensures).0)
