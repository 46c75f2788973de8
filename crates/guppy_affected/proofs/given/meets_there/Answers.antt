use Rattle.std.proofs.Common.{◌∙◌, ap, map}
use Rattle.guppy_data.specs.Component.{part_shown}
use Rattle.guppy_data.specs.Utf8Path.{path_text}
use Rattle.guppy_folders.specs.Places.{place}
use Rattle.guppy_affected.proofs.given.meets_there.Goals as goal

pub returns : goal.returns
returns c =
    let folder = ap (map part_shown) c.as_slice.ensures.value ∙ c.in_ok-folder.ensures ∙ ap (place (path_text c.args.root)) c.new.ensures in
    rw folder at c.meets_one.ensures
