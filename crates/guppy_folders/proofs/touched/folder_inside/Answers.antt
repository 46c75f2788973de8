use Rattle.std.proofs.Common.{◌≡◌, true, map}
use Rattle.guppy_data.specs.Component.{part_shown}
use Rattle.guppy_data.specs.Utf8Path.{path_text}
use Rattle.guppy_folders.specs.Folders.{lists_in}
use Rattle.guppy_folders.proofs.LongestFolders.{alone_outside, not_outside}
use Rattle.guppy_folders.proofs.touched.folder_inside.Goals as goal

pub returns-then-is_roots_alone : goal.returns-then-is_roots_alone
returns-then-is_roots_alone c =
    let longest = rw c.in-Some.is at c.in_ok-folder.ensures in
    let alone = c.is_roots_alone.ensures.0 c.if-is_roots_alone.true in
    alone_outside (lists_in c.args.folders.now) (path_text c.args.path) (map part_shown c.in-Some.folder.items) longest alone.0 alone.1

pub returns : goal.returns
returns c =
    let longest = rw c.in-Some.is at c.in_ok-folder.ensures in (
      not_outside (lists_in c.args.folders.now) (path_text c.args.path) (map part_shown c.in-Some.folder.items) longest
          (λ h. let is : c.is_of_workspace.result ≡ true = c.is_of_workspace.ensures.1 h in absurd (cc))
          (λ alone. let is : c.is_roots_alone.result ≡ true = c.is_roots_alone.ensures.1 alone in absurd (cc)),
      longest,
    )
