use Rattle.std.proofs.lemmas.Result.{on_ok_weaker}
use Rattle.guppy_features.specs.declared.fact.BuildPlatform.TheVariants.{Host}
use Rattle.guppy_features.specs.Questions.{question_of}
use Rattle.guppy_features.specs.Adding.{Adds}
use Rattle.guppy_features.specs.Parts.{FollowsOn}
use Rattle.guppy_features.proofs.Adding.{adds_then}
use Rattle.guppy_features.proofs.question.Asked.add_package.Goals as goal

pub returns : goal.returns
returns c =
    on_ok_weaker c.add_package_on-2.result (λ (host : Adds (FollowsOn (question_of c.args.self) c.args.position Host) c.add_package_on.new.rules.items c.add_package_on-2.new.rules.items). adds_then c.in_ok-add_package_on.ensures host) c.add_package_on-2.ensures
