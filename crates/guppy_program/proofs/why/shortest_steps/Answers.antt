use Rattle.std.proofs.Common.{◌∷◌, [], sym, subst, map}
use Rattle.std.proofs.lemmas.List.{length-map}
use Rattle.std.proofs.lemmas.Result.{err_from_is_err_and}
use Rattle.guppy_graph.specs.Ids.{IsKnown}
use Rattle.guppy.specs.Views.{link_number}
use Rattle.guppy_extras.specs.Walk.{NoneShorter, Between}
use Rattle.guppy_program.proofs.ReachedIds.{two_hold}
use Rattle.guppy_dot.proofs.GivenIds.{none_unknown}
use Rattle.guppy_program.proofs.why.shortest_steps.Goals as goal

pub returns-in_err-walk-clause-err : goal.returns-in_err-walk-clause-err
returns-in_err-walk-clause-err c =
    let passed_on = err_from_is_err_and c.from_residual.result c.from_residual.ensures.1 in
    rw (passed_on.1, passed_on.2) (none_unknown c.args.graph.now.packages (c.args.from.now ∷ c.args.to.now ∷ []) (two_hold (IsKnown c.args.graph.now.packages) _ _ c.requires.from_known c.requires.to_known) _ c.in_err-walk.ensures.unknown)

pub returns-in_ok-steps_along-in-Some-clause-steps : goal.returns-in_ok-steps_along-in-Some-clause-steps
returns-in_ok-steps_along-in-Some-clause-steps c =
    let g = c.args.graph.now in
    let links = c.in-Some.walk.items in
    let walk = rw c.in-Some.is at c.in_ok-walk.ensures.walk in
    let shortest = rw c.in-Some.is at c.in_ok-walk.ensures.shortest in
    record {
      walk = map link_number links;
      is_walk = walk;
      shortest = subst (λ count. Between g c.args.from.now c.args.to.now (λ p q. NoneShorter g.links p q count)) (sym (length-map links link_number)) shortest;
      along = rw c.as_slice.ensures.value at c.in_ok-steps_along-in-Some.ensures.ok;
    }
