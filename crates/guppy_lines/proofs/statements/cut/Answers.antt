use Rattle.std.proofs.Common.{lit<}
use Rattle.guppy_lines.proofs.Cuts.{words_first, words_only}
use Rattle.guppy_lines.proofs.statements.cut.Goals as goal

pub returns-in-Some : goal.returns-in-Some
returns-in-Some c = let parts = c.in-Some.ensures.byte (lit< tt) (λ w o h. h) in words_first _ _ _ parts.0 parts.1 parts.2

pub returns-in-None : goal.returns-in-None
returns-in-None c = words_only _ (c.in-None.ensures.byte (lit< tt) (λ w o h. h))
