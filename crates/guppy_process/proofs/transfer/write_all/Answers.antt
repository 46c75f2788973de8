use Rattle.std.proofs.Common.{rules, arith, take, drop, sym, ap, length}
use Rattle.std.proofs.lemmas.List.{take-append-drop, length-drop, take_rest}
use Rattle.std.proofs.KnownBytes.{Appends-kept}
use Rattle.guppy_process.proofs.Writes.{written_more}
use Rattle.guppy_process.proofs.transfer.write_all.Goals as goal

pub returns-in_err-at-clause-begun : goal.returns-in_err-at-clause-begun
returns-in_err-at-clause-begun g c =
    (take c.loop-at.at c.args.bytes.now, drop c.loop-at.at c.args.bytes.now, sym (take-append-drop c.loop-at.at c.args.bytes.now), Appends-kept _ _ _ _ c.loop-at.invariant.written c.in_err-at.ensures.bytes)

pub loop-at-preserved : goal.loop-at-preserved
loop-at-preserved g c = record {
  within = omega (arith, c.in_ok-at.ensures.count, ap length (take_rest c.args.bytes.now c.loop-at.at), length-drop c.loop-at.at c.args.bytes.now);
  written = written_more _ _ _ c.loop-at.at c.in_ok-at.field-0 c.args.bytes.now c.loop-at.invariant.written c.in_ok-at.ensures.bytes;
  fault = search (rules, c.in_ok-at.ensures.fault);
}
