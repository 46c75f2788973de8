use Rattle.std.proofs.lemmas.Result.{on_ok_weaker}
use Rattle.guppy_features.specs.Dependencies.{seen_dependency}
use Rattle.guppy_features.specs.Questions.{question_of}
use Rattle.guppy_features.specs.Adding.{Adds}
use Rattle.guppy_features.specs.Needs.{NeedsNamed}
use Rattle.guppy_features.proofs.Adding.{adds_then}
use Rattle.guppy_features.proofs.question.Asked.add_needs_of_used.Goals as goal

pub returns : goal.returns
returns c =
    let takes_part = rw (c.part.ensures, c.side_of-to_side.ensures) at c.in_ok-add_if_on.ensures in
    let default = rw (c.feature-default.ensures, c.side_of-to_side.ensures) at c.in_ok-add_if_on-2.ensures in
    on_ok_weaker c.add_features.result (λ (named : Adds (NeedsNamed (question_of c.args.self) c.args.side (seen_dependency c.args.dependency.now) c.args.used) c.add_if_on-2.new.rules.items c.add_features.new.rules.items). adds_then takes_part (adds_then default named)) c.add_features.ensures
