use Rattle.guppy_metadata.proofs.TextLists.{among_kept}
use Rattle.guppy_metadata.proofs.target.library_of.Goals as goal

pub returns : goal.returns
returns c = among_kept c.args.crate_types.items c.new.result c.new.ensures.kept
