use Rattle.std.proofs.Common.{◌∙◌, sym, string_bytes, map}
use Rattle.std.specs.Io.KnownBytes.{Appends}
use Rattle.guppy_command.specs.Shown.{asked_shown}
use Rattle.guppy_program.proofs.Runs.{begun}
use Rattle.guppy_program.proofs.program.run_with.Goals as goal

pub returns-clause-begun : goal.returns-clause-begun
returns-clause-begun g c failed =
    let front = c.write_text.ensures.begun in
    begun g.F.Format.format (g.D.Files.has c.args.files.now) (map string_bytes c.args.args.now) (asked_shown c.in_ok-asked.asked) c.in_ok-asked.ensures.asked (g.R.Source.left c.args.reader.now) (g.R.Source.left c.answer_source.new.reader)
    (Appends (g.W.Sink.written c.args.writer.now) (g.W.Sink.written c.write_text.new.writer))
    (string_bytes c.in_ok-text.text) front.0 front.1 c.in_ok-text.ensures.ok (sym c.as_str.ensures.value ∙ front.2) front.3
