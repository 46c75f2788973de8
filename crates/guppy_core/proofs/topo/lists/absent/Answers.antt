use Rattle.std.proofs.Common.{◌≡◌, length, sym, ◌∙◌, subst, arith}
use Rattle.guppy_search.proofs.Exits.{if_ok}
use Rattle.guppy_core.specs.Listing.{IsAbsence}
use Rattle.guppy_core.proofs.Listings.{absence_skipped, absence_more}
use Rattle.guppy_core.proofs.topo.lists.absent.Goals.{then-not-has_position+in_ok-push, else-not-has_position}
use Rattle.guppy_core.proofs.topo.lists.absent.Goals as goal

pub loop-position-preserved : goal.loop-position-preserved
loop-position-preserved g c = elim c.if-not-has_position.branch [
  | then-not-has_position+in_ok-push w ↦ rw (w.list-is, w.in_ok-push.ensures.items) (absence_more _ _ _ c.loop-position.invariant (sym c.has_position.ensures.value ∙ w.if-not-has_position.true))
  | else-not-has_position w ↦ rw w.list-is (absence_skipped _ _ _ c.loop-position.invariant (sym c.has_position.ensures.value ∙ w.if-not-has_position.false))
]

pub returns-in_err-push : goal.returns-in_err-push
returns-in_err-push g c = if_ok _ _ c.from_residual.ensures.0

pub loop-position-init : goal.loop-position-init
loop-position-init g c = rw c.new-list.ensures.items (record {
  ascends = λ i j x y p q l. absurd (cc);
  members = λ p. (λ t. absurd (let at = t.1 in cc), λ b. absurd (let low = b.0 in omega arith));
})

pub has_position-requires : goal.has_position-requires
has_position-requires g c = let test = c.loop-position-test.true in let count = c.node_count-position-end.ensures in omega arith

pub returns : goal.returns
returns g c =
    let test = c.loop-position-test.false in
    let end = c.loop-position.auto.position-end in
    let count = c.node_count-position-end.ensures in
    let all : c.loop-position.position ≡ length c.args.set.now = omega arith in
    subst (λ n. IsAbsence c.args.set.now n c.loop-position.list.items) all c.loop-position.invariant
