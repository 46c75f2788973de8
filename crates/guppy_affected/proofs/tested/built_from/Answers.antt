use Rattle.std.proofs.Common.{◌≡◌, subst, ℕ, Bool, Some, rules}
use Rattle.std.specs.Prelude.{slice_get}
use Rattle.guppy_search.specs.declared.graph_core.link.Link.{Link}
use Rattle.guppy_data.specs.declared.records.LinkRecord.{LinkRecord}
use Rattle.guppy_graph.specs.Ordered.{is_firm}
use Rattle.guppy.specs.Query.{SetData}
use Rattle.guppy.specs.Views.{OfLink}
use Rattle.guppy_affected.specs.Tested.{AreBuiltFrom}
use Rattle.guppy_affected.proofs.Iterators.{IfOk-along}
use Rattle.guppy_affected.proofs.ReverseResolves.{each_answer, leads_in}
use Rattle.guppy_affected.proofs.Tests.{at_link}
use Rattle.guppy_affected.proofs.tested.built_from.Goals as goal

pub returns-clause-built : goal.returns-clause-built
returns-clause-built c =
    let query = c.in_ok-query.query in
    let of_set = c.in_ok-query.ensures.initials in
    IfOk-along c.resolve_with_fn.result _ (AreBuiltFrom c.args.set.now)
    (λ built (trace, last, judges, visits).
    let answers = each_answer _ (λ (n : ℕ) (b : Bool). (l : Link LinkRecord) → slice_get query.graph.links n ≡ Some l → b ≡ is_firm l.edge)
    _ (λ n b t (cx, link, stepped, same_query, same_link).
    let given : OfLink link (λ l. b ≡ is_firm l.edge) = search rules in
    (λ l found. at_link query link n l (λ l. b ≡ is_firm l.edge) same_link found given, search rules)) trace last visits in
    let reached = leads_in is_firm query.graph.links query.initials trace built.included (rw c.in_ok-query.ensures.direction at judges) (λ n b there l found. answers n b there l found) in
    subst (λ (s : SetData). AreBuiltFrom s built) of_set reached)
    c.resolve_with_fn.ensures.judged
