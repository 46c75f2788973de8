use Rattle.guppy_features.proofs.question.Asked.add_standard.Goals as goal

pub returns-in-All : goal.returns-in-All
returns-in-All c = rw c.in-All.is c.add_all_features.ensures
