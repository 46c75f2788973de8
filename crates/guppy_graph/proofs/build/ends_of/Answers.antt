use Rattle.std.proofs.Common.{refl, subst, arith}
use Rattle.std.proofs.lemmas.List.{take_all}
use Rattle.std.proofs.lemmas.Option.{slice_get_read}
use Rattle.guppy_search.proofs.Exits.{if_ok, if_err}
use Rattle.guppy_graph.specs.Links.{AreEndsOf}
use Rattle.guppy_graph.proofs.Ends.{unknown_from, unknown_to, ends_more}
use Rattle.guppy_graph.proofs.UnknownTexts.{memory_told}
use Rattle.guppy_graph.proofs.build.ends_of.Goals as goal

pub returns-in_err-ends-clause-ok : goal.returns-in_err-ends-clause-ok
returns-in_err-ends-clause-ok c = if_ok _ _ c.from_residual.ensures.0

pub returns-in_err-ends-clause-err : goal.returns-in_err-ends-clause-err
returns-in_err-ends-clause-err c = if_err _ _ _ c.from_residual.ensures.1 (λ e is. memory_told _ e is)

pub loop-number-init : goal.loop-number-init
loop-number-init c = rw c.in_ok-ends.ensures.items (record { count = refl; named = λ k d within. absurd (omega arith) })

pub find_from-requires : goal.find_from-requires
find_from-requires c = rw c.as_slice-by_id.ensures.value c.requires

pub find_from-requires-in-loop-number : goal.find_from-requires-in-loop-number
find_from-requires-in-loop-number c = rw c.as_slice-by_id.ensures.value c.requires

pub returns-in_default-clause-err : goal.returns-in_default-clause-err
returns-in_default-clause-err c =
    let r = c.index-records-number.result in
    let found = slice_get_read c.args.records.now _ c.loop-number.number r refl c.loop-number-test.true c.index-records-number.is in
    rw c.unknown_end.ensures (c.loop-number.number, refl, unknown_from c.args.ids.now.packages.now c.args.records.now c.loop-number.number c.loop-number.ends.items r found c.loop-number.invariant c.in_default.ensures)

pub returns-in_default-find_from-clause-err : goal.returns-in_default-find_from-clause-err
returns-in_default-find_from-clause-err c =
    let r = c.index-records-number.result in
    let found = slice_get_read c.args.records.now _ c.loop-number.number r refl c.loop-number-test.true c.index-records-number.is in
    rw c.unknown_end-in_default-find_from.ensures (c.loop-number.number, refl, unknown_to c.args.ids.now.packages.now c.args.records.now c.loop-number.number c.loop-number.ends.items r found c.loop-number.invariant c.in_default-find_from.ensures)

pub returns-in_err-push-clause-ok : goal.returns-in_err-push-clause-ok
returns-in_err-push-clause-ok c = if_ok _ _ c.from_residual-in_err-push.ensures.0

pub returns-in_err-push-clause-err : goal.returns-in_err-push-clause-err
returns-in_err-push-clause-err c = if_err _ _ _ c.from_residual-in_err-push.ensures.1 (λ e is. memory_told _ e is)

pub loop-number-preserved : goal.loop-number-preserved
loop-number-preserved c =
    let r = c.index-records-number.result in
    let found = slice_get_read c.args.records.now _ c.loop-number.number r refl c.loop-number-test.true c.index-records-number.is in
    rw c.in_ok-push.ensures.items (ends_more c.args.ids.now.packages.now c.args.records.now c.loop-number.number c.loop-number.ends.items r c.in-Some.from c.in-Some-find_from.to found c.loop-number.invariant c.in-Some.ensures c.in-Some-find_from.ensures)

pub returns-clause-ok : goal.returns-clause-ok
returns-clause-ok c = subst (λ records. AreEndsOf c.args.ids.now.packages.now records c.loop-number.ends.items) (take_all c.loop-number.number c.args.records.now c.loop-number-test.false) c.loop-number.invariant
