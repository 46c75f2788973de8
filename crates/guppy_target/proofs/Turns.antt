-- The turns by which operands are read.
use Rattle.std.proofs.Common.{◌≡◌, ℕ, zero, suc, ◌-◌, ◌<◌, Bool, List, Some, None, refl, ap, ap₂, ◌∙◌, arith}
use Rattle.std.specs.Prelude.{Option, option_map, option_and_then, ◌&&◌, ◌||◌}
use Rattle.std.specs.Str.{byte}
use Rattle.guppy_target.specs.Cfg.{Setting, Predicate, no_more, also, holds}
use Rattle.guppy_target.specs.Reading.{mark_at, operands_on, operands_step, operands_at, predicate_at, predicate_from, word_at, truth_of}
use Rattle.guppy_target.proofs.Operands.{and-true, or-false, truths_behind, truths_more, told, not_told}

module _ (read : List ℕ → Option (Predicate × List ℕ)) where
  pub turn : (n : ℕ) (text : List ℕ) → 0 < n → operands_at read n text ≡ operands_step read (operands_at read (n - 1)) text (mark_at (byte ")") text)
  unfolding operands_at
  turn zero text h = absurd (omega arith)
  turn (suc n) text h = let e : suc n - 1 ≡ n = omega arith in rw e refl

  no_turn : (n : ℕ) (text : List ℕ) → mark_at (byte ")") text ≡ None → read text ≡ None → operands_at read n text ≡ None
  unfolding operands_at
  no_turn zero text m r = refl
  no_turn (suc n) text m r =
      ap (operands_step read (operands_at read n) text) m
      ∙ ap (option_and_then (λ (x : Predicate × List ℕ). operands_on (operands_at read n) x.0 x.1 (mark_at (byte ",") x.1))) r

  -- an operand is next
  pub operand : (n : ℕ) (text behind : List ℕ) (p : Predicate) → 0 < n → mark_at (byte ")") text ≡ None → read text ≡ Some (p, behind)
      → operands_at read n text ≡ operands_on (operands_at read (n - 1)) p behind (mark_at (byte ",") behind)
  operand n text behind p h m r =
      turn n text h ∙ ap (operands_step read (operands_at read (n - 1)) text) m
      ∙ ap (option_and_then (λ (x : Predicate × List ℕ). operands_on (operands_at read (n - 1)) x.0 x.1 (mark_at (byte ",") x.1))) r

  no_close : (n : ℕ) (text behind : List ℕ) (p : Predicate) → mark_at (byte ")") text ≡ None → read text ≡ Some (p, behind)
      → mark_at (byte ",") behind ≡ None → mark_at (byte ")") behind ≡ None → operands_at read n text ≡ None
  unfolding operands_at
  no_close zero text behind p m r c d = refl
  no_close (suc n) text behind p m r c d =
      operand (suc n) text behind p (omega arith) m r ∙ ap (operands_on (operands_at read (suc n - 1)) p behind) c
      ∙ ap (option_map (λ (t : List ℕ). (also p no_more, t))) d

module _ (settings : List Setting) (read : List ℕ → Option (Predicate × List ℕ)) (every one : Bool) (n : ℕ) (text : List ℕ) where
  -- the parenthesis is next
  pub ends : (rest : List ℕ) → 0 < n → mark_at (byte ")") text ≡ Some rest → truths_behind settings every one (operands_at read n text) ≡ Some (every, one, rest)
  ends rest h m =
      ap (truths_behind settings every one) (turn read n text h ∙ ap (operands_step read (operands_at read (n - 1)) text) m)
      ∙ ap₂ (λ (a b : Bool). Some (a, b, rest)) (and-true every) (or-false one)

  -- nothing that is read is next
  pub fails : mark_at (byte ")") text ≡ None → truth_of settings (read text) ≡ None → truths_behind settings every one (operands_at read n text) ≡ None
  fails m r = ap (truths_behind settings every one) (no_turn read n text m (not_told settings (read text) r))

  -- an operand and a comma are next
  pub more : (b : Bool) (behind next : List ℕ) → 0 < n → mark_at (byte ")") text ≡ None → truth_of settings (read text) ≡ Some (b, behind) → mark_at (byte ",") behind ≡ Some next
      → truths_behind settings every one (operands_at read n text) ≡ truths_behind settings (every && b) (one || b) (operands_at read (n - 1) next)
  more b behind next h m r c =
      let t = told settings (read text) b behind r in
      ap (truths_behind settings every one) (operand read n text behind t.0 h m t.1 ∙ ap (operands_on (operands_at read (n - 1)) t.0 behind) c)
      ∙ truths_more settings every one t.0 (operands_at read (n - 1) next)
      ∙ ap (λ (v : Bool). truths_behind settings (every && v) (one || v) (operands_at read (n - 1) next)) t.2

  -- the last operand and the parenthesis are next
  pub last : (b : Bool) (behind rest : List ℕ) → 0 < n → mark_at (byte ")") text ≡ None → truth_of settings (read text) ≡ Some (b, behind) → mark_at (byte ",") behind ≡ None → mark_at (byte ")") behind ≡ Some rest
      → truths_behind settings every one (operands_at read n text) ≡ Some (every && b, one || b, rest)
  last b behind rest h m r c d =
      let t = told settings (read text) b behind r in
      ap (truths_behind settings every one) (operand read n text behind t.0 h m t.1 ∙ ap (operands_on (operands_at read (n - 1)) t.0 behind) c
      ∙ ap (option_map (λ (u : List ℕ). (also t.0 no_more, u))) d)
      ∙ ap₂ (λ (x y : Bool). Some (every && x, one || y, rest)) (and-true (holds settings t.0) ∙ t.2) (or-false (holds settings t.0) ∙ t.2)

  -- an operand is next, and neither a comma nor the parenthesis
  pub unclosed : (b : Bool) (behind : List ℕ) → mark_at (byte ")") text ≡ None → truth_of settings (read text) ≡ Some (b, behind) → mark_at (byte ",") behind ≡ None → mark_at (byte ")") behind ≡ None
      → truths_behind settings every one (operands_at read n text) ≡ None
  unclosed b behind m r c d =
      let t = told settings (read text) b behind r in
      ap (truths_behind settings every one) (no_close read n text behind t.0 m t.1 c d)

-- a predicate of no level
pub no_levels : (text : List ℕ) → predicate_at 0 text ≡ None
unfolding predicate_at
no_levels text = refl

-- a word, and what it means with what is behind it
pub level : (n : ℕ) (text : List ℕ) → 0 < n → predicate_at n text ≡ option_and_then (λ x. predicate_from (predicate_at (n - 1)) x.0 x.1) (word_at text)
unfolding predicate_at
level zero text h = absurd (omega arith)
level (suc n) text h = let e : suc n - 1 ≡ n = omega arith in rw e refl
