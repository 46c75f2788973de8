use Rattle.guppy_arguments.proofs.told.ArgumentsFaultDisplay.fmt.Goals as goal

pub returns-in-OfScripts-clause-writes : goal.returns-in-OfScripts-clause-writes
returns-in-OfScripts-clause-writes g c = rw c.in-OfScripts.is c.write-in-OfScripts.ensures.writes

pub returns-in-NeedlessValue-clause-writes : goal.returns-in-NeedlessValue-clause-writes
returns-in-NeedlessValue-clause-writes g c = rw c.in-NeedlessValue.is c.write-in-NeedlessValue.ensures.writes

pub returns-in-BadKinds-clause-writes : goal.returns-in-BadKinds-clause-writes
returns-in-BadKinds-clause-writes g c = rw c.in-BadKinds.is c.write-in-BadKinds.ensures.writes

pub returns-in-BadAlso-clause-writes : goal.returns-in-BadAlso-clause-writes
returns-in-BadAlso-clause-writes g c = rw c.in-BadAlso.is c.write-in-BadAlso.ensures.writes

pub returns-in-BadCfg-clause-writes : goal.returns-in-BadCfg-clause-writes
returns-in-BadCfg-clause-writes g c = rw c.in-BadCfg.is c.write-in-BadCfg.ensures.writes
