use Rattle.guppy_data.specs.Path.{components}
use Rattle.guppy_data.specs.Utf8Path.{path_text}
use Rattle.guppy_folders.specs.Folders.{lists_in}
use Rattle.guppy_folders.proofs.LongestFolders.{found_one}
use Rattle.guppy_folders.proofs.folders.lies_in_one.Goals as goal

pub returns : goal.returns
returns c = rw c.is_some.ensures (found_one (lists_in c.args.folders.now) (components (path_text c.args.folder)) c.in_ok-longest.field-0 c.in_ok-longest.ensures)
