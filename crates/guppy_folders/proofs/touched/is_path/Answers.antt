use Rattle.guppy_folders.proofs.SamePaths.{same_path}
use Rattle.guppy_data.specs.Utf8Path.{path_text}
use Rattle.guppy_folders.proofs.touched.is_path.Goals as goal

pub returns : goal.returns
returns c = rw c.new.ensures at (same_path (path_text c.args.path) (path_text c.new.result) c.eq.result c.eq.ensures)
