use Rattle.std.proofs.Common.{take}
use Rattle.std.specs.List.{AllZip}
use Rattle.guppy_data.specs.NamedFeature.{IsFeature}
use Rattle.guppy_built.proofs.asked.values_of.Given as goal

abbrev pub invariant-loop-text : goal.invariant-loop-text
invariant-loop-text l = AllZip (λ text value. IsFeature text.now value) (take l.text-index l.texts) l.values.items
