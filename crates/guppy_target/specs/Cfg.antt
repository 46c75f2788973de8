-- What a compiler says of a platform, and what a predicate says of it.
use Rattle.std.specs.Prelude.{ℕ, ◌+◌, max, List, Bool, true, false, not, ◌&&◌, ◌||◌}
use Rattle.std.specs.List.{list_any}
use Rattle.std.specs.Str.{bytes_eq}

-- what is set for a platform: a name, as `unix`, or a key with a value, as `target_os="linux"`
pub data Setting : Type 0 where
  name : List ℕ → Setting
  pair : List ℕ → List ℕ → Setting

mutual
  -- what a text may ask: is this set, do all of these hold, does any, does this one not; or `true` or `false`
  pub data Predicate : Type 0 where
    is_set : Setting → Predicate
    all_of : Predicates → Predicate
    any_of : Predicates → Predicate
    not_of : Predicate → Predicate
    constant : Bool → Predicate

  pub data Predicates : Type 0 where
    no_more : Predicates
    also : Predicate → Predicates → Predicates

-- whether two settings are the same
abbrev pub setting_eq : Setting → Setting → Bool
setting_eq (name a) (name b) = bytes_eq a b
setting_eq (pair k v) (pair l w) = bytes_eq k l && bytes_eq v w
setting_eq (name a) (pair l w) = false
setting_eq (pair k v) (name b) = false

-- whether the setting is one of these
abbrev pub is_among : List Setting → Setting → Bool
is_among settings s = list_any (setting_eq s) settings

-- whether a predicate holds where these are set
abbrev mutual
  pub holds : List Setting → Predicate → Bool
  holds settings (is_set s) = is_among settings s
  holds settings (all_of ps) = all_hold settings ps
  holds settings (any_of ps) = any_holds settings ps
  holds settings (not_of p) = not (holds settings p)
  holds settings (constant b) = b

  pub all_hold : List Setting → Predicates → Bool
  all_hold settings no_more = true
  all_hold settings (also p ps) = holds settings p && all_hold settings ps

  pub any_holds : List Setting → Predicates → Bool
  any_holds settings no_more = false
  any_holds settings (also p ps) = holds settings p || any_holds settings ps

-- how many levels a predicate has: 1, and one more for each `all`, `any` or `not` around another
abbrev mutual
  pub levels : Predicate → ℕ
  levels (is_set s) = 1
  levels (all_of ps) = levels_of_each ps + 1
  levels (any_of ps) = levels_of_each ps + 1
  levels (not_of p) = levels p + 1
  levels (constant b) = 1

  pub levels_of_each : Predicates → ℕ
  levels_of_each no_more = 0
  levels_of_each (also p ps) = max (levels p) (levels_of_each ps)
