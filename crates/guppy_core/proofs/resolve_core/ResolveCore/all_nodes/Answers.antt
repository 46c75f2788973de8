use Rattle.std.proofs.Common.{◌<◌, ◌∙◌, ap, length, replicate, true, false, arith, below_more}
use Rattle.std.proofs.Math.ListN.{length-replicate, length-set}
use Rattle.std.proofs.lemmas.List.{get_or-set_same}
use Rattle.guppy_search.proofs.Exits.{if_ok}
use Rattle.guppy_search.proofs.Members.{member-set_keeps, all_members}
use Rattle.guppy_core.proofs.resolve_core.ResolveCore.all_nodes.Goals as goal

pub loop-position-init : goal.loop-position-init
loop-position-init g c = record {
  size = rw c.in_ok-included.ensures (length-replicate c.node_count-count.result false);
  filled = λ p h. absurd (omega arith);
}

pub insert_position-requires-clause-in_range : goal.insert_position-requires-clause-in_range
insert_position-requires-clause-in_range g c = let size = c.loop-position.invariant.size in omega arith

pub insert_position-requires-clause-small : goal.insert_position-requires-clause-small
insert_position-requires-clause-small g c = let few = c.node_count-count.ensures.graph.few_nodes in omega arith

pub loop-position-preserved : goal.loop-position-preserved
loop-position-preserved g c =
    let size = c.loop-position.invariant.size in
    let within : c.loop-position.position < length c.loop-position.included = omega arith in
    rw c.insert_position.ensures.after (record {
      size = length-set c.loop-position.included c.loop-position.position true ∙ size;
      filled = below_more _ _
          (λ p h. member-set_keeps c.loop-position.included c.loop-position.position p within (c.loop-position.invariant.filled p h))
          (get_or-set_same c.loop-position.included c.loop-position.position true false within);
    })

pub returns : goal.returns
returns g c =
    let size = c.loop-position.invariant.size in
    let count = c.node_count-count.ensures.count in
    c.from_included.ensures ∙ all_members c.loop-position.included (λ p h. c.loop-position.invariant.filled p (omega arith)) ∙ ap (λ n. replicate n true) (size ∙ count)

pub returns-in_err-included : goal.returns-in_err-included
returns-in_err-included g c = if_ok _ _ c.from_residual.ensures.0
