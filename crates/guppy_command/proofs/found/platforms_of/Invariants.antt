use Rattle.std.proofs.Common.{map, take}
use Rattle.std.specs.List.{AllZip}
use Rattle.guppy_command.specs.Asked.{IsNamed}
use Rattle.guppy_command.proofs.found.platforms_of.Given as goal

abbrev pub invariant-loop-triple : goal.invariant-loop-triple
invariant-loop-triple g l = AllZip (IsNamed (g.D.Files.has l.files)) (map (λ named. (named.0.now, named.1.now)) (take l.triple-index l.named)) l.platforms.items
