use Rattle.std.proofs.Common.{◌≡◌, subst, ℕ, Bool, Some, rules}
use Rattle.std.specs.Prelude.{slice_get}
use Rattle.guppy_search.specs.declared.graph_core.link.Link.{Link}
use Rattle.guppy_search.specs.IxSet.{has}
use Rattle.guppy_data.specs.declared.records.LinkRecord.{LinkRecord}
use Rattle.guppy.specs.Query.{SetData}
use Rattle.guppy.specs.Views.{OfLink}
use Rattle.guppy_affected.specs.Tested.{AreWithDependents}
use Rattle.guppy_affected.proofs.Iterators.{IfOk-along}
use Rattle.guppy_affected.proofs.ReverseResolves.{each_answer, steps_in}
use Rattle.guppy_affected.proofs.Tests.{at_link}
use Rattle.guppy_affected.proofs.tested.with_dependents.Goals as goal

pub returns-clause-both : goal.returns-clause-both
returns-clause-both c =
    let query = c.in_ok-query.query in
    let of_set = c.in_ok-query.ensures.initials in
    let inside = c.in_ok-inside.inside in
    IfOk-along c.resolve_with_fn.result _ (AreWithDependents c.args.set.now)
    (λ both (trace, last, judges, visits).
    let answers = each_answer _ (λ (n : ℕ) (b : Bool). (l : Link LinkRecord) → slice_get query.graph.links n ≡ Some l → b ≡ has inside l.to)
    _ (λ n b t (cx, link, stepped, same_query, same_link).
    let given : OfLink link (λ l. b ≡ has inside l.to) = search rules in
    (λ l found. at_link query link n l (λ l. b ≡ has inside l.to) same_link found given, search rules)) trace last visits in
    let reached = steps_in inside query.graph.links query.initials trace both.included (rw c.in_ok-query.ensures.direction at judges) (λ n b there l found. answers n b there l found) c.in_ok-inside.ensures.members in
    subst (λ (s : SetData). AreWithDependents s both) of_set reached)
    c.resolve_with_fn.ensures.judged
