-- The grammar of `cfg(..)`, as Cargo reads it: a predicate has tokens, and a text has them with spaces between.
use Rattle.std.specs.Prelude.{◌≡◌, ◌≢◌, ◌⊎◌, ℕ, ◌≤◌, List, [], ◌∷◌, ◌++◌, Bool, true, false, IsTrue, ◌||◌, ◌==◌, codes}
use Rattle.std.specs.List.{AllByRecursion}
use Rattle.std.specs.Char.{is_ascii_alphabetic, is_ascii_alphanumeric}
use Rattle.std.specs.Str.{byte}
use Rattle.guppy_target.specs.Cfg.{Setting, name, pair, Predicate, Predicates, is_set, all_of, any_of, not_of, constant, no_more, also, levels}

-- a word, a quoted text, or one of `(`, `)`, `,` and `=`
pub data Token : Type 0 where
  word : List ℕ → Token
  quoted : List ℕ → Token
  mark : ℕ → Token

-- a letter or `_`
abbrev pub starts_word : ℕ → Bool
starts_word c = is_ascii_alphabetic c || (c == byte "_")

-- a letter, a digit or `_`
abbrev pub is_of_word : ℕ → Bool
is_of_word c = is_ascii_alphanumeric c || (c == byte "_")

-- an identifier
abbrev pub IsWord : List ℕ → Type 0
IsWord [] = ⊥
IsWord (c ∷ cs) = IsTrue (starts_word c) × AllByRecursion (λ d. IsTrue (is_of_word d)) cs

-- what no word goes on with
abbrev pub EndsWord : List ℕ → Type 0
EndsWord [] = Unit {0}
EndsWord (c ∷ cs) = is_of_word c ≡ false

abbrev pub spelling : Token → List ℕ
spelling (word w) = w
spelling (quoted v) = byte "\"" ∷ v ++ byte "\"" ∷ []
spelling (mark m) = m ∷ []

-- `(`, `)`, `,` or `=`
abbrev pub IsMark : ℕ → Type 0
IsMark m = (m ≡ byte "(") ⊎ (m ≡ byte ")") ⊎ (m ≡ byte ",") ⊎ (m ≡ byte "=")

-- the token is one, and ends where behind begins
abbrev pub IsToken : Token → List ℕ → Type 0
IsToken (word w) behind = IsWord w × EndsWord behind
IsToken (quoted v) behind = AllByRecursion (λ c. c ≢ byte "\"") v
IsToken (mark m) behind = IsMark m

-- some spaces, or none
abbrev pub AreSpaces : List ℕ → Type 0
AreSpaces cs = AllByRecursion (λ c. c ≡ byte " ") cs

-- the text is spaces, the token, and what is behind it
pub record Begins (t : Token) (text behind : List ℕ) : Type 0 where
  pub spaces : List ℕ
  pub are_spaces : AreSpaces spaces
  pub text_is : text ≡ spaces ++ (spelling t ++ behind)
  pub is_token : IsToken t behind

-- the text is these tokens, one after another, and what is behind them
abbrev pub Lies : List Token → List ℕ → List ℕ → Type 0
Lies [] text behind = text ≡ behind
Lies (t ∷ ts) text behind = (rest : List ℕ) × Begins t text rest × Lies ts rest behind

-- `all`, `any` and `not`, which stand before a parenthesis
abbrev pub IsOperator : List ℕ → Type 0
IsOperator w = (w ≡ codes "all") ⊎ (w ≡ codes "any") ⊎ (w ≡ codes "not")

-- `true` and `false`
abbrev pub constant_word : Bool → List ℕ
constant_word true = codes "true"
constant_word false = codes "false"

-- the operator with its operands in parentheses
abbrev pub applied : List ℕ → List Token → List Token
applied operator inner = word operator ∷ mark (byte "(") ∷ inner ++ mark (byte ")") ∷ []

-- a name by its word, unless that means something else, and a pair as `key = "value"`
abbrev pub SpellsSetting : Setting → List Token → Type 0
SpellsSetting (name w) ts =
    (IsOperator w → ⊥) × (w ≢ codes "true") × (w ≢ codes "false") × (ts ≡ word w ∷ [])
SpellsSetting (pair k v) ts = (IsOperator k → ⊥) × (ts ≡ word k ∷ mark (byte "=") ∷ quoted v ∷ [])

-- the tokens are the predicate's; behind each operand of `all` and `any` but the last stands a comma, and
-- behind the last may stand one
abbrev mutual
  pub Spells : Predicate → List Token → Type 0
  Spells (is_set s) ts = SpellsSetting s ts
  Spells (all_of ps) ts = (inner : List Token) × SpellsEach ps inner × (ts ≡ applied (codes "all") inner)
  Spells (any_of ps) ts = (inner : List Token) × SpellsEach ps inner × (ts ≡ applied (codes "any") inner)
  Spells (not_of p) ts = (inner : List Token) × Spells p inner × (ts ≡ applied (codes "not") inner)
  Spells (constant b) ts = ts ≡ word (constant_word b) ∷ []

  pub SpellsEach : Predicates → List Token → Type 0
  SpellsEach no_more ts = ts ≡ []
  SpellsEach (also p ps) ts = (front : List Token) × Spells p front
      × (((ps ≡ no_more) × (ts ≡ front))
      ⊎ ((rest : List Token) × SpellsEach ps rest × (ts ≡ front ++ (mark (byte ",") ∷ rest))))

-- how deep predicates may be nested
abbrev pub max_levels : ℕ
max_levels = 128

-- the text is `cfg(..)` around this predicate
pub record Reads (text : List ℕ) (p : Predicate) : Type 0 where
  pub inner : List ℕ
  pub text_is : text ≡ codes "cfg(" ++ (inner ++ codes ")")
  pub tokens : List Token
  pub spells : Spells p tokens
  pub spaces : List ℕ
  pub are_spaces : AreSpaces spaces
  pub lies : Lies tokens inner spaces
  pub nests : levels p ≤ max_levels

-- a letter, a digit, `_`, `-` or `.`
abbrev pub is_of_triple : ℕ → Bool
is_of_triple c = is_ascii_alphanumeric c || (c == byte "_") || (c == byte "-") || (c == byte ".")

-- the text may be the name of a platform
abbrev pub IsTriple : List ℕ → Type 0
IsTriple text = AllByRecursion (λ c. IsTrue (is_of_triple c)) text
