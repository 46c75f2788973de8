use Rattle.std.proofs.Common.{◌≡◌}
use Rattle.std.proofs.lemmas.Result.{IfErr-weaker}
use Rattle.guppy_search.specs.Fault.{IsFault}
use Rattle.guppy_search.proofs.Exits.{if_err}
use Rattle.guppy_flat.specs.Flat.{flagged, IsFlatFault}
use Rattle.guppy_flat.proofs.FlatLinks.{holds_anyway}
use Rattle.guppy_flat.proofs.flat.graph_of.Goals as goal

pub returns-in_err-expect_within-clause-fault : goal.returns-in_err-expect_within-clause-fault
returns-in_err-expect_within-clause-fault c =
    let fault = c.in_err-expect_within.ensures.fault c.args.flags.now c.requires in
    if_err (IsFlatFault c.args.count (flagged c.args.links.now c.args.flags.now)) (λ e. e ≡ c.in_err-expect_within.field-0.0) _ c.from_residual.ensures.1 (λ e is. rw is fault)

pub returns-clause-within : goal.returns-clause-within
returns-clause-within c = holds_anyway c.graph_from.result (c.in_ok-expect_within.ensures.within c.args.flags.now c.requires)

pub returns-clause-fault : goal.returns-clause-fault
returns-clause-fault c =
    let links = flagged c.args.links.now c.args.flags.now in
    let within = c.in_ok-expect_within.ensures.within c.args.flags.now c.requires in
    IfErr-weaker c.graph_from.result (IsFault c.args.count links) (IsFlatFault c.args.count links) (λ e is. record { is_fault = is; within = λ _. within }) c.graph_from.ensures.fault
