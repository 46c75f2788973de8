use Rattle.std.proofs.Common.{map, take}
use Rattle.guppy_affected.specs.Folders.{given_in}
use Rattle.guppy_program.specs.Answer.{AreGiven}
use Rattle.guppy_program.proofs.answer.given_folders.Given as goal

abbrev pub invariant-loop-folder : goal.invariant-loop-folder
invariant-loop-folder g l = AreGiven (g.F.Format.format.meant l.graph.packages) (map (λ both. (both.0.now, both.1.now)) (take l.folder-index l.also))
    (given_in l.given.items)
