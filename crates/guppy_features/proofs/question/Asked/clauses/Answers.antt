use Rattle.guppy_features.specs.Questions.{question_of}
use Rattle.guppy_features.proofs.Adding.{adds_same, adds_then, adds_to_nothing}
use Rattle.guppy_features.proofs.Follows.{what_follows}
use Rattle.guppy_features.proofs.question.Asked.clauses.Goals as goal

pub returns : goal.returns
returns c =
    let roots = rw c.in_ok-rules.ensures.items at c.in_ok-add_all_roots.ensures in
    adds_to_nothing (adds_same (what_follows (question_of c.args.self)) (adds_then roots c.in_ok-add_packages.ensures))
