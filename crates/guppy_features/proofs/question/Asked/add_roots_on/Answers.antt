use Rattle.std.proofs.Common.{None}
use Rattle.std.proofs.lemmas.Result.{on_ok_weaker}
use Rattle.guppy_features.specs.Questions.{question_of}
use Rattle.guppy_features.specs.Adding.{Adds, Behind, OfSome}
use Rattle.guppy_features.specs.Values.{Gives}
use Rattle.guppy_features.proofs.Adding.{adds_then}
use Rattle.guppy_features.proofs.question.Asked.add_roots_on.Goals as goal

pub returns : goal.returns
returns c =
    let part = rw c.part.ensures at c.in_ok-add_rule.ensures in
    let added = rw c.as_slice-2.ensures.value at c.add_values.ensures in
    on_ok_weaker c.add_values.result (λ (named : Adds (OfSome c.args.initial.now.features.items (λ value. Behind None (Gives (question_of c.args.self) c.args.initial.now.position c.args.side value))) c.add_standard.new.rules.items c.add_values.new.rules.items). adds_then part (adds_then c.in_ok-add_standard.ensures named)) added
