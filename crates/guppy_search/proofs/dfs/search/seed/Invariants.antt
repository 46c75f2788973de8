use Rattle.std.proofs.Common.{◌≡◌, length, vec_capacity}
use Rattle.guppy_search.specs.Searching.{Seeded}
use Rattle.guppy_search.proofs.dfs.search.seed.Given as goal

abbrev pub invariant-initials : goal.invariant-initials
invariant-initials g l = record {
  size : length l.set ≡ length l.initials;
  capacity : vec_capacity l.waiting ≡ vec_capacity l.fn.waiting;
  seeded : Seeded l.initials l.set l.waiting.items l.ix-iterator;
}
