use Rattle.std.proofs.Common.{◌≡◌, false, length, replicate}
use Rattle.std.proofs.lemmas.List.{length-replicate}
use Rattle.guppy_search.specs.declared.graph_core.graph.GraphFault.TheVariants.{OutOfMemory}
use Rattle.guppy_search.proofs.Exits.{if_err}
use Rattle.guppy_flat.specs.Flat.{plain, IsFlatFault}
use Rattle.guppy_flat.proofs.sets.plain_graph_of.Goals as goal

pub returns-in_err-expect_within-clause-fault : goal.returns-in_err-expect_within-clause-fault
returns-in_err-expect_within-clause-fault c =
    let links = c.args.links.now in
    let fault = c.in_err-expect_within.ensures.fault (replicate (length links) false) (length-replicate (length links) false) in
    if_err (IsFlatFault c.args.count (plain links)) (λ e. e ≡ c.in_err-expect_within.field-0.0) _ c.from_residual.ensures.1 (λ e is. rw is fault)

pub returns-in_err-flags-clause-fault : goal.returns-in_err-flags-clause-fault
returns-in_err-flags-clause-fault c =
    let links = c.args.links.now in
    let within = c.in_ok-expect_within.ensures.within (replicate (length links) false) (length-replicate (length links) false) in
    if_err (IsFlatFault c.args.count (plain links)) (λ e. e ≡ OutOfMemory) _ c.from_residual-in_err-flags.ensures.1 (λ e is. rw is (record { is_fault = tt; within = λ _. within }))
