-- What of names is compared first.
use Rattle.std.specs.Prelude.{◌+◌, ◌-◌, ◌*◌, ◌%◌, ℕ, List, length, drop}
use Rattle.std.specs.List.{fold}

-- a key with one more letter, in place of the first of its four
abbrev pub and_letter : ℕ → ℕ → ℕ
and_letter key letter = key % 16777216 * 256 + letter

-- the last four letters of a name
abbrev pub name_key : List ℕ → ℕ
name_key name = fold and_letter 0 (drop (length name - 4) name)
