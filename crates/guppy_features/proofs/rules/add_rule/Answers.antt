use Rattle.guppy_features.proofs.Adding.{adds_clause, adds_nothing}
use Rattle.guppy_features.proofs.rules.add_rule.Goals as goal

pub returns-in_ok-push : goal.returns-in_ok-push
returns-in_ok-push c = rw (c.in-Some.is, c.in_ok-push.ensures.items) (adds_clause c.args.first c.args.second c.in-Some.head c.args.rules.now.items)

pub returns-in_default : goal.returns-in_default
returns-in_default c = adds_nothing c.args.rules.now.items (λ body f w. let head = c.in_default.is in let some = w.1 in absurd cc)
