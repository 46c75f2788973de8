use Rattle.std.proofs.Common.{◌≡◌, ◌∙◌, true, false, not, ◌&&◌, IsTrue, refl, sym}
use Rattle.std.proofs.lemmas.Result.{on_ok_weaker}
use Rattle.guppy_features.specs.Questions.{question_of}
use Rattle.guppy_features.specs.Resolved.{is_resolved}
use Rattle.guppy_features.proofs.Adders.{adds_resolved, adds_unresolved}
use Rattle.guppy_features.proofs.Resolving.{has_resolved}
use Rattle.guppy_features.proofs.question.Asked.add_unresolved.Goals as goal

pub returns-then-weak : goal.returns-then-weak
returns-then-weak c =
    let so : (not c.args.weak && not (is_resolved c.args.self.graph.now c.args.position c.args.name.now)) ≡ false = rw c.if-weak.true refl in
    adds_resolved (question_of c.args.self) c.args.position c.args.side c.args.name.now c.args.weak c.args.first _ so

pub returns-then-has_optional : goal.returns-then-has_optional
returns-then-has_optional c =
    let has = has_resolved c.args.self.graph.now c.args.position c.args.dependencies.now c.args.name.now c.requires.dependencies in
    let resolved : is_resolved c.args.self.graph.now c.args.position c.args.name.now ≡ true = sym has ∙ sym c.has_optional.ensures ∙ c.if-has_optional.true in
    let so : (not c.args.weak && not (is_resolved c.args.self.graph.now c.args.position c.args.name.now)) ≡ false = rw (c.if-weak.false, resolved) refl in
    adds_resolved (question_of c.args.self) c.args.position c.args.side c.args.name.now c.args.weak c.args.first _ so

pub returns : goal.returns
returns c =
    let has = has_resolved c.args.self.graph.now c.args.position c.args.dependencies.now c.args.name.now c.requires.dependencies in
    let unresolved : is_resolved c.args.self.graph.now c.args.position c.args.name.now ≡ false = sym has ∙ sym c.has_optional.ensures ∙ c.if-has_optional.false in
    let so : IsTrue (not c.args.weak && not (is_resolved c.args.self.graph.now c.args.position c.args.name.now)) = rw (c.if-weak.false, unresolved) refl in
    let added = rw c.switched.ensures at c.add_rule.ensures in
    on_ok_weaker c.add_rule.result (adds_unresolved (question_of c.args.self) c.args.position c.args.side c.args.name.now c.args.weak c.args.first so) added
