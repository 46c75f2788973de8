use Rattle.std.proofs.Common.{rules}
use Rattle.guppy_lines.proofs.records.push_package.Goals as goal

pub returns : goal.returns
returns c = (
  _,
  c.in_ok-push.ensures.items,
  record {
    id_is = search rules;
    name = search rules;
    version = search rules;
    source = search rules;
    manifest_path = search rules;
    edition = search rules;
    bare = c.new-2.ensures.bare;
  },
)
