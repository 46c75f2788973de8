use Rattle.std.proofs.Common.{◌≡◌, map, take}
use Rattle.std.specs.Option.{option_copied}
use Rattle.guppy_graph.proofs.keys.texts_of.Given as goal

abbrev pub invariant-loop-package : goal.invariant-loop-package
invariant-loop-package g l = map option_copied l.texts.items ≡ map g.K.Key.text_of (take l.package-index l.packages)
