use Rattle.std.proofs.Common.{map}
use Rattle.std.specs.List.{AllZip}
use Rattle.guppy.specs.Views.{link_data}
use Rattle.guppy_program.specs.Answer.{IsLinkTold}
use Rattle.guppy_print.specs.Shown.{link_shown}
use Rattle.guppy_program.proofs.answer.links.Given as goal

abbrev pub invariant-loop-link : goal.invariant-loop-link
invariant-loop-link l = AllZip IsLinkTold (map link_data l.yielded) (map link_shown l.links.items)
