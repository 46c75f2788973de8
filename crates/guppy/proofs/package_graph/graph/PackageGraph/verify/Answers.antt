use Rattle.std.proofs.Common.{◌≡◌, subst}
use Rattle.std.specs.Prelude.{OnOk, IfErr}
use Rattle.guppy_data.specs.declared.texts.error.Error.TheVariants.{OutOfMemory}
use Rattle.guppy_graph.specs.FirmCycles.{HasNoFirmCycle}
use Rattle.guppy_graph.specs.Graph.{GraphData}
use Rattle.guppy_graph.specs.Verified.{IsVerified}
use Rattle.guppy.proofs.package_graph.graph.PackageGraph.verify.Goals as goal

pub returns-clause-verified : goal.returns-clause-verified
returns-clause-verified c = subst (λ (g : GraphData). OnOk c.verify.result (IsVerified g × HasNoFirmCycle g)) c.self.view_is c.verify.ensures.verified

pub returns-clause-answered : goal.returns-clause-answered
returns-clause-answered c = subst (λ (g : GraphData). IsVerified g → HasNoFirmCycle g → IfErr c.verify.result (λ e. e ≡ OutOfMemory)) c.self.view_is c.verify.ensures.answered
