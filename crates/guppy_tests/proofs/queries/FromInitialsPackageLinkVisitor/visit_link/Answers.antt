-- A copy of the context has the same query.
use Rattle.std.proofs.Common.{subst}
use Rattle.guppy.specs.Query.{QueryData}
use Rattle.guppy.specs.Views.{link_data}
use Rattle.guppy.specs.Visitors.{StartsFromInitial}
use Rattle.guppy_tests.proofs.queries.FromInitialsPackageLinkVisitor.visit_link.Goals as goal

pub returns-in-Ok-clause-visits : goal.returns-in-Ok-clause-visits
returns-in-Ok-clause-visits c = λ yes.
    subst (λ (q : QueryData). StartsFromInitial q (link_data c.args.link)) c.in-Ok.ensures.cases (c.starts_from_initial.ensures.0 yes)
