-- What is in the box is of one type, whose visitor may be shown any link.
use Rattle.std.proofs.Common.{sym, subst}
use Rattle.guppy.specs.Visitors.{query_link}
use Rattle.guppy_memory_tests.proofs.resolves.resolved_in_a_box.OwnLists.{own-1}
use Rattle.guppy_memory_tests.proofs.resolves.resolved_in_a_box.Goals as goal

pub resolved_with-requires : goal.resolved_with-requires
resolved_with-requires c = λ n few.
    subst (λ (k : own-1.I). (v : (own-1.entry k).0.Denot) → (own-1.entry k).1.can_visit v c.args.query (query_link c.args.query n))
    (sym c.into_dyn_box.ensures.0) (λ v. tt) c.into_dyn_box.result.value
