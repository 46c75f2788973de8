use Rattle.guppy_data.proofs.texts.warning.FeatureBuildStageDisplay.fmt.Goals as goal

pub returns-in-AddNamedFeatureEdges-clause-writes : goal.returns-in-AddNamedFeatureEdges-clause-writes
returns-in-AddNamedFeatureEdges-clause-writes g c = rw c.in-AddNamedFeatureEdges.is c.write.ensures.writes

pub returns-in-AddDependencyEdges-clause-writes : goal.returns-in-AddDependencyEdges-clause-writes
returns-in-AddDependencyEdges-clause-writes g c = rw c.in-AddDependencyEdges.is c.write-in-AddDependencyEdges.ensures.writes
