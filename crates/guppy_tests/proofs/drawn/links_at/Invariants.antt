use Rattle.std.proofs.Common.{◌<◌, All}
use Rattle.guppy_tests.proofs.drawn.links_at.Given as goal

abbrev pub invariant-loop-link : goal.invariant-loop-link
invariant-loop-link l = All (λ n. n < l.link_count) l.links.items
