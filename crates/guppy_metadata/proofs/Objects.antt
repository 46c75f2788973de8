-- Objects that are read into a list of members.
use Rattle.std.proofs.Common.{◌≡◌, ℕ, List, [], ◌∷◌, map, refl, ap}
use Rattle.std.specs.Borrow.{Bor}
use Rattle.json.specs.Json.{Json, no_members, member}
use Rattle.json.specs.Value.{value_view, members_view}
use Rattle.json.specs.declared.value.Value.{Value}
use Rattle.guppy_metadata.proofs.Turns.{members_onto}

-- a member, with its value as it is seen
abbrev pub seen : {A : Type 0} → Bor (List ℕ) × Value A → List ℕ × Json
seen m = (m.0.now, value_view m.1)

pub members_seen : {A : Type 0} (ms : List (Bor (List ℕ) × Value A)) → members_onto (map seen ms) no_members ≡ members_view ms
members_seen [] = refl
members_seen (m ∷ ms) = ap (member m.0.now (value_view m.1)) (members_seen ms)
