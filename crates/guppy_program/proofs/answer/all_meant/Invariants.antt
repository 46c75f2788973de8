use Rattle.std.proofs.Common.{take, All}
use Rattle.std.specs.List.{AllZip}
use Rattle.guppy_graph.specs.Ids.{IsKnown}
use Rattle.guppy_command.specs.Shown.{texts}
use Rattle.guppy_program.specs.Meant.{Means}
use Rattle.guppy_program.proofs.answer.all_meant.Given as goal

abbrev pub invariant-loop-word : goal.invariant-loop-word
invariant-loop-word g l = record {
  named : AllZip (Means (g.F.Format.format.meant l.graph.packages)) (texts (take l.word-index l.words)) l.ids.items;
  known : All (IsKnown l.graph.packages) l.ids.items;
}
