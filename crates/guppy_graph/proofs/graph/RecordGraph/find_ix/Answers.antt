use Rattle.std.proofs.Common.{subst, arith, ◌≤◌, length}
use Rattle.guppy_graph.specs.Accepted.{few_packages}
use Rattle.guppy_graph.specs.Graph.{IsPackageGraph}
use Rattle.guppy_graph.specs.Ids.{HasId, IsKnown}
use Rattle.guppy_graph.specs.Keys.{NoneBelow}
use Rattle.guppy_graph.proofs.PackageIds.{within_of, unknown_of}
use Rattle.guppy_graph.proofs.graph.RecordGraph.find_ix.Goals as goal

pub position_of_id-requires : goal.position_of_id-requires
position_of_id-requires c = rw c.nodes.ensures c.self.invariant.indexes.by_id

pub new-requires : goal.new-requires
new-requires c =
    let packages = c.self.inside.graph.nodes in
    let has : HasId packages c.args.id.now c.in-Some.position = rw c.nodes.ensures at c.in-Some.ensures in
    let below = within_of packages c.args.id.now c.in-Some.position has in
    let few : length packages ≤ 4294967295 = c.self.invariant.graph.accepted few_packages in
    omega arith

pub returns-in-Some-clause-found : goal.returns-in-Some-clause-found
returns-in-Some-clause-found c =
    let has : HasId c.self.inside.graph.nodes c.args.id.now c.in-Some.position = rw c.nodes.ensures at c.in-Some.ensures in
    rw c.new.ensures (subst (λ g. HasId g.packages c.args.id.now c.in-Some.position) c.self.view_is has)

pub returns-in-Some-clause-graph : goal.returns-in-Some-clause-graph
returns-in-Some-clause-graph c = subst IsPackageGraph c.self.view_is c.self.invariant.graph

pub returns-in-None-clause-found : goal.returns-in-None-clause-found
returns-in-None-clause-found c =
    let packages = c.self.inside.graph.nodes in
    let none : NoneBelow (HasId packages) c.args.id.now (length packages) = rw c.nodes.ensures at c.in-None.ensures in
    subst (λ g. ¬ IsKnown g.packages c.args.id.now) c.self.view_is (unknown_of packages c.args.id.now none)

pub returns-in-None-clause-graph : goal.returns-in-None-clause-graph
returns-in-None-clause-graph c = subst IsPackageGraph c.self.view_is c.self.invariant.graph
