use Rattle.std.proofs.Common.{false, arith}
use Rattle.std.proofs.Math.ListN.{length-replicate}
use Rattle.guppy_search.proofs.Members.{has-replicate}
use Rattle.guppy_search.proofs.Exits.{if_ok}
use Rattle.guppy_core.proofs.Listings.{set_more, set_all}
use Rattle.guppy_core.proofs.topo.lists.set_of.Goals as goal

pub loop-position-preserved : goal.loop-position-preserved
loop-position-preserved g c = rw c.insert_position.ensures.after (set_more _ _ _ _ c.loop-position.invariant c.loop-position-test.true c.requires.below)

pub returns-clause-members : goal.returns-clause-members
returns-clause-members g c = set_all _ _ _ _ c.loop-position.invariant c.loop-position-test.false

pub loop-position-init : goal.loop-position-init
loop-position-init g c = rw c.in_ok-set.ensures (record {
  limit_is = length-replicate c.args.node_count false;
  members = λ p. (λ h. absurd (let lacks = has-replicate c.args.node_count p in cc), λ b. absurd (let low = b.1 in omega arith));
})

pub insert_position-requires-clause-in_range : goal.insert_position-requires-clause-in_range
insert_position-requires-clause-in_range g c =
    let below = c.requires.below c.loop-position.position-index 0 c.loop-position-test.true in
    rw c.loop-position.invariant.limit_is below

pub insert_position-requires-clause-small : goal.insert_position-requires-clause-small
insert_position-requires-clause-small g c =
    let below = c.requires.below c.loop-position.position-index 0 c.loop-position-test.true in
    let small = c.requires.small in
    omega arith

pub returns-clause-count : goal.returns-clause-count
returns-clause-count g c = c.loop-position.invariant.limit_is

pub returns-in_err-set : goal.returns-in_err-set
returns-in_err-set g c = let none = c.from_residual.ensures.0 in record { count = if_ok _ _ none; members = if_ok _ _ none }
