use Rattle.guppy_data.proofs.texts.warning.FeatureGraphWarningDisplay.fmt.Goals as goal

pub returns-in-MissingFeature-clause-writes : goal.returns-in-MissingFeature-clause-writes
returns-in-MissingFeature-clause-writes g c = rw c.in-MissingFeature.is c.write.ensures.writes
