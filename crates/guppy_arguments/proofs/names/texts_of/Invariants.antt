use Rattle.std.proofs.Common.{take, string_bytes}
use Rattle.indexmap.specs.IndexMap.{get_by_text}
use Rattle.guppy_arguments.specs.Names.{printed, AreIds, AreCalled}
use Rattle.guppy_arguments.proofs.FirstElements.{HasFirsts}
use Rattle.guppy_arguments.proofs.names.texts_of.Given as goal

abbrev pub invariant-loop-package : goal.invariant-loop-package
invariant-loop-package l = AreIds l.packages l.ids → AreCalled l.packages l.ids_by_text
    → HasFirsts (λ r. r.id) (printed l.packages) string_bytes (take l.package-index l.packages) (get_by_text l.texts)
