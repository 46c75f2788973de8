use Rattle.std.proofs.Common.{◌↔◌, ℕ, List, Option, IsSomeAnd, Contains, map, sym, ap, subst}
use Rattle.std.proofs.lemmas.Result.{IfOk-weaker}
use Rattle.json.specs.Json.{Json}
use Rattle.json.specs.Value.{value_view}
use Rattle.guppy_declared.specs.Declares.{Declares, IsMember}
use Rattle.guppy_declared.specs.Shown.{member_shown, pair_shown}
use Rattle.guppy_declared.proofs.Members.{declared_are}
use Rattle.guppy_declared.proofs.declared_members.Goals as goal

pub returns-in-Ok : goal.returns-in-Ok
returns-in-Ok c =
    let d = value_view c.in-Ok.metadata in
    let members = map member_shown c.as_slice.result.now in
    let are = subst (λ (l : List (Json × List ℕ)). (m : Json × List ℕ) → Contains l m ↔ IsMember d m.0 m.1) (sym (ap (map member_shown) c.as_slice.ensures.value)) c.in_ok-members-in-Ok.ensures in
    IfOk-weaker c.pairs_among.result _ _
    (λ pairs grown from to. subst (λ (o : Option Json). Contains (map pair_shown pairs.items) (from, to) ↔ IsSomeAnd o (λ d. Declares d from to)) (sym c.in-Ok.ensures.ok)
    (declared_are d members are (map pair_shown pairs.items) grown from to)) c.pairs_among.ensures
