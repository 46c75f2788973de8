use Rattle.std.proofs.Common.{◌∙◌, subst, map}
use Rattle.std.specs.List.{AllZip}
use Rattle.guppy.specs.Views.{link_data}
use Rattle.guppy.specs.Walked.{walked_left}
use Rattle.guppy_dot.specs.Dot.{IsEdge, edge_shown}
use Rattle.guppy_dot.proofs.Drawings.{fits_push, walked_numbers}
use Rattle.guppy_dot.proofs.GivenIds.{all_given}
use Rattle.guppy_dot.proofs.drawing.edges_of.Goals as goal

pub loop-link-preserved : goal.loop-link-preserved
loop-link-preserved c =
    fits_push IsEdge link_data edge_shown c.loop-link.yielded c.loop-link.edges.items c.push.new.self.items c.in-Some.link c.edge_of.result
    c.in_ok-push.ensures.items c.loop-link.invariant c.edge_of.ensures

pub returns-clause-ok : goal.returns-clause-ok
returns-clause-ok c =
    let walked = c.in_ok-walked.walked in
    let numbers = c.in_ok-walked.ensures.walked in
    let gave = rw c.into_iter-link-iterator.ensures.into_iter_gives at c.loop-link.yielded_by in
    let given = all_given link_data walked_left walked _ c.next.new.self _ gave c.in-None.ensures.steps in
    record {
      numbers = numbers.0;
      all = walked_numbers c.args.set.now (walked_left walked) numbers (c.in_ok-walked.ensures.all c.requires);
      drawn = subst (λ links. AllZip IsEdge links (map edge_shown c.loop-link.edges.items)) (given ∙ numbers.2) c.loop-link.invariant;
    }
