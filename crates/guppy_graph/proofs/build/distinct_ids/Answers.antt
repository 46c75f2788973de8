use Rattle.std.proofs.Common.{refl}
use Rattle.guppy_search.proofs.Exits.{if_ok, on_ok, if_err}
use Rattle.guppy_graph.specs.Keys.{IsFirstRepeat}
use Rattle.guppy_graph.specs.Ids.{HasId}
use Rattle.guppy_graph.proofs.UnknownTexts.{memory_told}
use Rattle.guppy_graph.proofs.build.distinct_ids.Goals as goal

pub returns-in_err-likely : goal.returns-in_err-likely
returns-in_err-likely c =
    let none = c.from_residual.ensures in
    record { made = if_ok _ _ none.0; accepted = on_ok _ _ none.0; refused = if_err _ _ _ none.1 (λ e is. memory_told _ e is) }

pub returns-in_err-by_id : goal.returns-in_err-by_id
returns-in_err-by_id c =
    let none = c.from_residual-in_err-by_id.ensures in
    record { made = if_ok _ _ none.0; accepted = on_ok _ _ none.0; refused = if_err _ _ _ none.1 (λ e is. memory_told _ e is) }

pub returns-in-Some-clause-refused : goal.returns-in-Some-clause-refused
returns-in-Some-clause-refused c =
    let repeated : IsFirstRepeat (HasId c.args.ids.now.packages.now) c.in-Some.package = rw c.in-Some.is at c.in_ok-by_id.ensures.repeat in
    rw c.into.ensures (c.in-Some.package, refl, repeated)

pub returns-clause-accepted : goal.returns-clause-accepted
returns-clause-accepted c = rw c.in_default.is at c.in_ok-by_id.ensures.repeat
