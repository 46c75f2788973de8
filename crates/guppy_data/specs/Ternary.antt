-- Disabled, unknown or enabled: three values in this order.
use Rattle.std.specs.Prelude.{ℕ, ◌≤◌, Bool, true, false, Option, None, Some, List, [], ◌∷◌, nat_le, if◌then◌else◌}
use Rattle.guppy_data.specs.declared.platform.ternary.EnabledTernary.{EnabledTernary}
use Rattle.guppy_data.specs.declared.platform.ternary.EnabledTernary.TheVariants.{Disabled, Unknown, Enabled}

-- the place of a value in the order
abbrev pub rank : EnabledTernary → ℕ
rank Disabled = 0
rank Unknown = 1
rank Enabled = 2

-- a stands no higher than b
abbrev pub AtMost : EnabledTernary → EnabledTernary → Type 0
AtMost a b = rank a ≤ rank b

-- the minimum of two values
abbrev pub lesser : EnabledTernary → EnabledTernary → EnabledTernary
lesser a b = if nat_le (rank a) (rank b) then a else b

-- the maximum of two values
abbrev pub greater : EnabledTernary → EnabledTernary → EnabledTernary
greater a b = if nat_le (rank a) (rank b) then b else a

-- the maximum of a list, `Disabled` of none
abbrev pub greatest : List EnabledTernary → EnabledTernary
greatest [] = Disabled
greatest (a ∷ rest) = greater a (greatest rest)

-- the value of an evaluator's answer
abbrev pub ternary_of : Option Bool → EnabledTernary
ternary_of (Some false) = Disabled
ternary_of None = Unknown
ternary_of (Some true) = Enabled
