-- How a text is read from its front. Each function answers what stands there, and what is behind it.
use Rattle.std.specs.Prelude.{ℕ, zero, suc, ◌+◌, ◌-◌, List, [], ◌∷◌, length, take, drop, Bool, true, false, not, ◌==◌, Option, Some, None, is_some, option_map, option_and_then, position, codes, if◌then◌else◌}
use Rattle.std.specs.List.{list_all, position_or_len}
use Rattle.std.specs.Str.{byte, bytes_eq}
use Rattle.std.specs.Str.Lines.{lines}
use Rattle.guppy_target.specs.Cfg.{Setting, name, pair, Predicate, Predicates, is_set, all_of, any_of, not_of, constant, no_more, also, holds, all_hold, any_holds}
use Rattle.guppy_target.specs.Grammar.{starts_word, is_of_word, max_levels}

abbrev pub after_spaces : List ℕ → List ℕ
after_spaces [] = []
after_spaces (c ∷ cs) = if c == byte " " then after_spaces cs else c ∷ cs

-- behind the mark, where it is first
abbrev pub behind_mark : ℕ → List ℕ → Option (List ℕ)
behind_mark m [] = None
behind_mark m (c ∷ cs) = if c == m then Some cs else None

unfoldable pub mark_at : ℕ → List ℕ → Option (List ℕ)
mark_at m text = behind_mark m (after_spaces text)

abbrev pub split_word : List ℕ → List ℕ × List ℕ
split_word cs =
    (take (position_or_len (λ c. not (is_of_word c)) cs) cs, drop (position_or_len (λ c. not (is_of_word c)) cs) cs)

abbrev pub word_first : List ℕ → Option (List ℕ × List ℕ)
word_first [] = None
word_first (c ∷ cs) = if starts_word c then Some (split_word (c ∷ cs)) else None

unfoldable pub word_at : List ℕ → Option (List ℕ × List ℕ)
word_at text = word_first (after_spaces text)

abbrev pub quoted_behind : List ℕ → Option (List ℕ × List ℕ)
quoted_behind cs = option_map (λ n. (take n cs, drop (n + 1) cs)) (position (λ c. c == byte "\"") cs)

unfoldable pub quoted_at : List ℕ → Option (List ℕ × List ℕ)
quoted_at text = option_and_then quoted_behind (mark_at (byte "\"") text)

-- what a word alone asks
abbrev pub bare : List ℕ → Predicate
bare w = if bytes_eq w (codes "true") then constant true
    else (if bytes_eq w (codes "false") then constant false else is_set (name w))

abbrev pub setting_from : List ℕ → List ℕ → Option (List ℕ) → Option (Predicate × List ℕ)
setting_from w rest None = Some (bare w, rest)
setting_from w rest (Some behind) = option_map (λ x. (is_set (pair w x.0), x.1)) (quoted_at behind)

-- behind the word, which is no operator
unfoldable pub setting_at : List ℕ → List ℕ → Option (Predicate × List ℕ)
setting_at w rest = setting_from w rest (mark_at (byte "=") rest)

abbrev pub closed : Predicate → List ℕ → Option (Predicate × List ℕ)
closed p rest = option_map (λ behind. (not_of p, behind)) (mark_at (byte ")") rest)

-- behind `not`
unfoldable pub negated_at : (List ℕ → Option (Predicate × List ℕ)) → List ℕ → Option (Predicate × List ℕ)
negated_at read rest = option_and_then (λ x. closed x.0 x.1) (option_and_then read (mark_at (byte "(") rest))

-- behind an operand
abbrev pub operands_on : (List ℕ → Option (Predicates × List ℕ)) → Predicate → List ℕ → Option (List ℕ) → Option (Predicates × List ℕ)
operands_on more p rest (Some behind) = option_map (λ y. (also p y.0, y.1)) (more behind)
operands_on more p rest None = option_map (λ behind. (also p no_more, behind)) (mark_at (byte ")") rest)

abbrev pub operands_step : (List ℕ → Option (Predicate × List ℕ)) → (List ℕ → Option (Predicates × List ℕ)) → List ℕ → Option (List ℕ) → Option (Predicates × List ℕ)
operands_step read more text (Some rest) = Some (no_more, rest)
operands_step read more text None = option_and_then (λ x. operands_on more x.0 x.1 (mark_at (byte ",") x.1)) (read text)

-- The operands of `all` and `any`, and the parenthesis behind them. The number bounds the turns; the length of
-- the text is always enough.
unfoldable pub operands_at : (List ℕ → Option (Predicate × List ℕ)) → ℕ → List ℕ → Option (Predicates × List ℕ)
operands_at read zero text = None
operands_at read (suc n) text = operands_step read (operands_at read n) text (mark_at (byte ")") text)

-- behind `all` and `any`
unfoldable pub all_operands_at : (List ℕ → Option (Predicate × List ℕ)) → List ℕ → Option (Predicates × List ℕ)
all_operands_at read rest = option_and_then (λ text. operands_at read (length text) text) (mark_at (byte "(") rest)

-- behind a word
abbrev pub predicate_from : (List ℕ → Option (Predicate × List ℕ)) → List ℕ → List ℕ → Option (Predicate × List ℕ)
predicate_from read w rest = if bytes_eq w (codes "not") then negated_at read rest
    else (if bytes_eq w (codes "all") then option_map (λ x. (all_of x.0, x.1)) (all_operands_at read rest)
    else (if bytes_eq w (codes "any") then option_map (λ x. (any_of x.0, x.1)) (all_operands_at read rest)
    else setting_at w rest))

-- a predicate of so many levels or fewer
unfoldable pub predicate_at : ℕ → List ℕ → Option (Predicate × List ℕ)
predicate_at zero text = None
predicate_at (suc n) text = option_and_then (λ x. predicate_from (predicate_at n) x.0 x.1) (word_at text)

-- whether what is read holds where these are set
abbrev pub truth_of : List Setting → Option (Predicate × List ℕ) → Option (Bool × List ℕ)
truth_of settings read = option_map (λ x. (holds settings x.0, x.1)) read

-- whether all operands hold, and whether one does
abbrev pub truths_of : List Setting → Option (Predicates × List ℕ) → Option (Bool × Bool × List ℕ)
truths_of settings read =
    option_map (λ x. (all_hold settings x.0, any_holds settings x.0, x.1)) read

-- what is left of a text behind `cfg(`
abbrev pub behind_cfg : List ℕ → Option (List ℕ)
behind_cfg text = if bytes_eq (take 4 text) (codes "cfg(") then Some (drop 4 text) else None

-- what is left of a text before a parenthesis at its end
abbrev pub before_close : List ℕ → Option (List ℕ)
before_close text = if bytes_eq (drop (length text - 1) text) (codes ")")
    then Some (take (length text - 1) text) else None

-- what stands in `cfg(..)`
unfoldable pub inner_of : List ℕ → Option (List ℕ)
inner_of text = option_and_then before_close (behind_cfg text)

abbrev pub if_last : Predicate → List ℕ → Option Predicate
if_last p [] = Some p
if_last p (c ∷ cs) = None

-- the predicate that a text is
unfoldable pub predicate_of : List ℕ → Option Predicate
predicate_of text = option_and_then (λ x. if_last x.0 (after_spaces x.1)) (predicate_at max_levels text)

abbrev pub if_ended : Setting → List ℕ → Option Setting
if_ended s [] = Some s
if_ended s (c ∷ cs) = None

abbrev pub line_from : List ℕ → List ℕ → Option (List ℕ) → Option Setting
line_from w rest None = if_ended (name w) (after_spaces rest)
line_from w rest (Some behind) =
    option_and_then (λ x. if_ended (pair w x.0) (after_spaces x.1)) (quoted_at behind)

-- what a line says is set
unfoldable pub line_at : List ℕ → Option Setting
line_at line = option_and_then (λ x. line_from x.0 x.1 (mark_at (byte "=") x.1)) (word_at line)

-- whether each line of a text says what is set
abbrev pub are_settings : List ℕ → Bool
are_settings text = list_all (λ line. is_some (line_at line)) (lines text)
