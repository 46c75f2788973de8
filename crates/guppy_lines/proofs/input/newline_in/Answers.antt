use Rattle.std.specs.Prelude.{◌==◌}
use Rattle.guppy_lines.proofs.InputLines.{first_byte}
use Rattle.guppy_lines.proofs.input.newline_in.Goals as goal

pub returns : goal.returns
returns c = first_byte (λ b. b == 10) c.args.text.now c.memchr.result c.memchr.ensures
