-- Lists that grow by what is said of other ones.
use Rattle.std.specs.Prelude.{◌⊎◌, ◌↔◌, List, Contains}

-- the list has what it had, and what R says of one of these
abbrev pub IsGrown : {X Y : Type 0} → (X → Y → Type 0) → List X → List Y → List Y → Type 0
IsGrown {X} {Y} R xs old new = (y : Y) → Contains new y ↔ (Contains old y ⊎ ((x : X) × Contains xs x × R x y))
