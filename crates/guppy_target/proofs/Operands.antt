-- What is known of the first operands of `all` and `any`, and of the rest.
use Rattle.std.proofs.Common.{◌≡◌, ℕ, Bool, true, false, List, Some, None, refl, ap, ap₂}
use Rattle.std.specs.Prelude.{Option, option_map, ◌&&◌, ◌||◌}
use Rattle.std.proofs.lemmas.Option.{some_pair_parts}
use Rattle.guppy_target.specs.Cfg.{Setting, Predicate, Predicates, all_of, any_of, also, holds, all_hold, any_holds}
use Rattle.guppy_target.specs.Reading.{truth_of, truths_of}

and-assoc : (a b c : Bool) → (a && (b && c)) ≡ ((a && b) && c)
and-assoc true b c = refl
and-assoc false b c = refl

or-assoc : (a b c : Bool) → (a || (b || c)) ≡ ((a || b) || c)
or-assoc true b c = refl
or-assoc false b c = refl

pub and-true : (a : Bool) → (a && true) ≡ a
and-true true = refl
and-true false = refl

pub or-false : (a : Bool) → (a || false) ≡ a
or-false true = refl
or-false false = refl

module _ (settings : List Setting) where
  -- what is known with the operands so far
  abbrev pub truths_behind : Bool → Bool → Option (Predicates × List ℕ) → Option (Bool × Bool × List ℕ)
  truths_behind every one read =
      option_map (λ x. (every && all_hold settings x.0, one || any_holds settings x.0, x.1)) read

  -- where no operand stands before
  pub truths_first : (read : Option (Predicates × List ℕ)) → truths_of settings read ≡ truths_behind true false read
  truths_first None = refl
  truths_first (Some (ps, rest)) = refl

  -- one more of the operands
  pub truths_more : (every one : Bool) (p : Predicate) (read : Option (Predicates × List ℕ))
      → truths_behind every one (option_map (λ x. (also p x.0, x.1)) read) ≡ truths_behind (every && holds settings p) (one || holds settings p) read
  truths_more every one p None = refl
  truths_more every one p (Some (ps, rest)) =
      ap₂ (λ (a b : Bool). Some (a, b, rest)) (and-assoc every (holds settings p) (all_hold settings ps)) (or-assoc one (holds settings p) (any_holds settings ps))

  pub every_operand : (read : Option (Predicates × List ℕ)) → truth_of settings (option_map (λ x. (all_of x.0, x.1)) read) ≡ option_map (λ x. (x.0, x.2)) (truths_of settings read)
  every_operand None = refl
  every_operand (Some (ps, rest)) = refl

  pub one_operand : (read : Option (Predicates × List ℕ)) → truth_of settings (option_map (λ x. (any_of x.0, x.1)) read) ≡ option_map (λ x. (x.1, x.2)) (truths_of settings read)
  one_operand None = refl
  one_operand (Some (ps, rest)) = refl

  -- what was read, by whether it holds
  pub told : (read : Option (Predicate × List ℕ)) (b : Bool) (rest : List ℕ) → truth_of settings read ≡ Some (b, rest)
      → (p : Predicate) × (read ≡ Some (p, rest)) × (holds settings p ≡ b)
  told None b rest e = absurd (cc)
  told (Some (p, found)) b rest e =
      let parts : (holds settings p ≡ b) × (found ≡ rest) = some_pair_parts _ _ _ _ e in
      (p, ap (λ (r : List ℕ). Some (p, r)) parts.1, parts.0)

  pub not_told : (read : Option (Predicate × List ℕ)) → truth_of settings read ≡ None → read ≡ None
  not_told None e = refl
  not_told (Some x) e = absurd (cc)
