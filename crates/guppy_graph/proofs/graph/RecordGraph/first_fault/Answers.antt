use borrow.Author.Count.{below_more}
use Rattle.std.proofs.Common.{ap, refl, arith, ◌<◌, length}
use Rattle.guppy_graph.specs.Verified.{IsPackageVerified}
use Rattle.guppy_graph.proofs.VerifiedGraphs.{verified_of_packages, no_fault}
use Rattle.guppy_graph.proofs.graph.RecordGraph.first_fault.Goals as goal

pub returns-in-Some-clause-verified : goal.returns-in-Some-clause-verified
returns-in-Some-clause-verified c =
    let count = c.node_count-position-end.ensures.count in
    let nodes = ap length c.dep_graph.ensures.nodes in
    let within : c.loop-position.position < length c.args.self.now.packages = omega (arith, count, nodes, c.loop-position-test.true) in (
      λ ok. absurd (cc),
      λ verified. absurd (no_fault c.args.self.now verified c.in-Some.fault
          (record { position = c.loop-position.position; within = within; before = c.loop-position.invariant; tells = c.in-Some.ensures })),
    )

pub loop-position-preserved : goal.loop-position-preserved
loop-position-preserved c = below_more (IsPackageVerified c.args.self.now) c.loop-position.position c.loop-position.invariant c.in_default.ensures

pub returns-clause-verified : goal.returns-clause-verified
returns-clause-verified c =
    let count = c.node_count-position-end.ensures.count in
    let nodes = ap length c.dep_graph.ensures.nodes in
    (λ ok. verified_of_packages c.args.self.now c.dep_graph.ensures.graph (λ p below. c.loop-position.invariant p (omega (arith, count, nodes, c.loop-position-test.false))), λ verified. refl)
