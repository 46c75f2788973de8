use Rattle.std.proofs.Common.{rules, ◌≡◌, sym, refl, true, ℕ, ◌+◌, get_or}
use Rattle.std.specs.List.{IsAllAdjacentAnswer}
use Rattle.std.specs.declared.cmp.Ordering.{Ordering}
use Rattle.std.specs.declared.cmp.Ordering.TheVariants.{Less, Equal, Greater}
use Rattle.std.specs.Ordering.{is_lt}
use Rattle.std.proofs.lemmas.Fn.{always_returns_same}
use Rattle.guppy_graph.specs.Keys.{or_empty}
use Rattle.guppy_graph.proofs.keyed.rise.Goals as goal

from_is_lt : (v : Ordering) → is_lt v ≡ true → v ≡ Less
from_is_lt Less h = refl
from_is_lt Equal h = absurd (cc)
from_is_lt Greater h = absurd (cc)

pub returns : goal.returns
returns g c =
    let order = g.S.Keyed.order in
    let key = λ (p : ℕ). or_empty (g.S.Keyed.key_at c.args.source.now p) in
    let answer : IsAllAdjacentAnswer (λ x y b. b ≡ is_lt (order (key x) (key y))) c.args.positions.now c.is_sorted_by.result =
    c.is_sorted_by.ensures.cases (λ a b. is_lt (order (key a) (key b))) (always_returns_same _ _ _ (λ a r f' k. search rules)) in
    λ risen k d within. from_is_lt (order (key (get_or c.args.positions.now k d)) (key (get_or c.args.positions.now (k + 1) d))) (sym ((rw risen at answer) k d within))
