use Rattle.std.proofs.Common.{◌≡◌, ◌≤◌, take}
use Rattle.guppy_metadata.specs.Package.{dots_in}
use Rattle.guppy_metadata.proofs.package.dots_in.Given as goal

abbrev pub invariant-loop-byte : goal.invariant-loop-byte
invariant-loop-byte l = record {
  counted : l.count ≡ dots_in (take l.byte-index l.text);
  low : l.count ≤ l.byte-index;
}
