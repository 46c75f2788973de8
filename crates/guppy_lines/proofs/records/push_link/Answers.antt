use Rattle.std.proofs.Common.{sym}
use Rattle.guppy_lines.proofs.records.push_link.Goals as goal

pub returns : goal.returns
returns c = (_, c.in_ok-push.ensures.items, rw (sym c.in_ok-from.ensures, sym c.in_ok-to.ensures) c.link_record.ensures)
