-- The parts of what members declare, as they are read one after another.
use Rattle.std.specs.Prelude.{◌≡◌, ℕ, List, Some, Contains, codes}
use Rattle.json.specs.Json.{Json, string}
use Rattle.guppy_declared.specs.Declares.{text_in, HasItem, AsksForPath, LiesIn}

-- the package is a member, and has the ID
abbrev pub IsMemberAt : Json → Json → Json × List ℕ → Type 0
IsMemberAt d told member = (member.0 ≡ told) × (text_in (codes "id") told ≡ Some member.1)
    × HasItem (codes "workspace_members") d (string member.1)

-- the pair is that of the ID and this member's, whose manifest lies in the folder
abbrev pub IsPairAt : List ℕ → List ℕ → Json × List ℕ → List ℕ × List ℕ → Type 0
IsPairAt from folder member pair = LiesIn member.0 folder × (pair ≡ (from, member.1))

-- the pair is that of the ID and of a member that the dependency asks for
abbrev pub IsPairAskedBy : List (Json × List ℕ) → List ℕ → Json → List ℕ × List ℕ → Type 0
IsPairAskedBy members from dependency pair = (folder : List ℕ) × AsksForPath dependency folder
    × ((member : Json × List ℕ) × Contains members member × IsPairAt from folder member pair)

-- the pair is that of the member and of one that it declares
abbrev pub IsPairOf : List (Json × List ℕ) → Json × List ℕ → List ℕ × List ℕ → Type 0
IsPairOf members member pair = (dependency : Json) × HasItem (codes "dependencies") member.0 dependency
    × IsPairAskedBy members member.1 dependency pair
