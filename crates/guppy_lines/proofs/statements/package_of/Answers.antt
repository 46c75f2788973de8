use Rattle.std.proofs.Common.{◌∙◌, sym}
use Rattle.guppy_lines.proofs.Cuts.{empty_is, words_behind, package_empty, package_more}
use Rattle.guppy_lines.proofs.statements.package_of.Goals.{then-is_empty-via-then-is_empty, then-is_empty-via-else-is_empty+then-is_some}
use Rattle.guppy_lines.proofs.statements.package_of.Goals as goal

pub returns-then-is_empty : goal.returns-then-is_empty
returns-then-is_empty c = rw c.cut.ensures (elim c.then-is_empty.branch [
  | then-is_empty-via-then-is_empty w ↦ rw (empty_is c.cut.result.0.now (sym c.is_empty.ensures ∙ w.if-is_empty.true)) (sym (package_empty _))
  | then-is_empty-via-else-is_empty+then-is_some w ↦
      let behind = words_behind c.cut.result.1 (sym w.is_some.ensures ∙ w.if-is_some.true) in
      rw behind.1 (sym (package_more c.cut.result.0.now behind.0))
])
