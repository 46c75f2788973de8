-- What a `Platform` is: its triple, and what is set for it, by the lines that a compiler prints.
use Rattle.std.specs.Prelude.{ℕ, ◌<◌, List, [], ◌∷◌, length, take, slice_get, Option, Some, None, IfSome}
use Rattle.std.specs.Str.{byte}
use Rattle.guppy_target.specs.Cfg.{Setting, name, pair}
use Rattle.guppy_target.specs.Grammar.{Token, word, quoted, mark, AreSpaces, Lies}
use Rattle.guppy_target.specs.declared.platform.Cfg.{Cfg}
use Rattle.guppy_target.specs.declared.platform.Cfg.TheVariants.{Name, Pair}

pub record PlatformData : Type 0 where
  pub triple : List ℕ
  pub settings : List Setting

-- what is set, without where it lies in memory
abbrev pub setting_of : Cfg → Setting
setting_of (Name w) = name w.items
setting_of (Pair k v) = pair k.items v.items

-- a name is a word, and a key with a value is `key="value"`
abbrev pub tokens_of : Setting → List Token
tokens_of (name w) = word w ∷ []
tokens_of (pair k v) = word k ∷ mark (byte "=") ∷ quoted v ∷ []

-- the line says that this is set
pub record IsLine (line : List ℕ) (s : Setting) : Type 0 where
  pub spaces : List ℕ
  pub are_spaces : AreSpaces spaces
  pub lies : Lies (tokens_of s) line spaces

-- the lines say that these are set, each its own
abbrev pub AreLines : List (List ℕ) → List Setting → Type 0
AreLines [] [] = Unit {0}
AreLines [] (s ∷ ss) = ⊥
AreLines (line ∷ ls) [] = ⊥
AreLines (line ∷ ls) (s ∷ ss) = IsLine line s × AreLines ls ss

-- the first line that says of nothing that it is set is behind so many
pub record IsFirstFault (ls : List (List ℕ)) (n : ℕ) : Type 0 where
  pub within : n < length ls
  pub before : (settings : List Setting) × AreLines (take n ls) settings
  pub fault : IfSome (slice_get ls n) (λ line. (s : Setting) → IsLine line s → ⊥)

-- what the parts of a line say
abbrev pub part_setting : List ℕ → Option (List ℕ) → Setting
part_setting w None = name w
part_setting w (Some v) = pair w v
