use Rattle.std.proofs.Common.{◌+◌, ◌<◌, length, arith, sym, rules}
use Rattle.std.proofs.lemmas.List.{length-drop, take_rest}
use Rattle.std.proofs.Math.Seq.{drop-length}
use Rattle.guppy_lines.proofs.InputLines.{lines_first, lines_only}
use Rattle.guppy_lines.proofs.input.next_line.Goals as goal

pub returns-in-Some : goal.returns-in-Some
returns-in-Some c =
    let first = lines_first c.args.text.now c.without_carriage_return.result.now c.in-Some.end (sym c.in-Some.ensures) c.without_carriage_return.ensures in
    rw (take_rest c.args.text.now (c.in-Some.end + 1)) (first.0, omega (arith, first.1, length-drop (c.in-Some.end + 1) c.args.text.now))

pub returns-in-None : goal.returns-in-None
returns-in-None c =
    let some : 0 < length c.args.text.now = search rules in
    rw (take_rest c.args.text.now (length c.args.text.now), drop-length c.args.text.now) (lines_only c.args.text.now (sym c.in-None.ensures) some, some)
