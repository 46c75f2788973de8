use Rattle.std.proofs.lemmas.List.Elements.{All-contains}
use Rattle.guppy_graph.specs.Targets.{IsNamed}
use Rattle.guppy.proofs.metadata.PackageMetadata.build_target.Goals as goal

pub new-requires : goal.new-requires
new-requires c = All-contains IsNamed c.targets_of.result.now c.in-Some.target.now c.targets_of.ensures.named (c.in-Some.ensures).0
