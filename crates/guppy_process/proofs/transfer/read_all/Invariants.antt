use Rattle.std.proofs.Common.{◌≡◌, ◌-◌, ◌^◌, vec_len}
use Rattle.std.specs.Io.KnownBytes.{Consumes}
use Rattle.guppy_process.proofs.transfer.read_all.Given as goal

abbrev pub invariant-read : goal.invariant-read
invariant-read g l = record {
  bytes : Consumes (g.R.Source.left l.initial.reader) (g.R.Source.left l.reader) l.bytes.items;
  fault : g.R.Source.has_failed l.reader ≡ g.R.Source.has_failed l.initial.reader;
}

abbrev pub decreases-read : goal.decreases-read
decreases-read g l = 2 ^ 63 - vec_len l.bytes
