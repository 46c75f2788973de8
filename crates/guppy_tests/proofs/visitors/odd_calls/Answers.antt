-- Each call adds one to the count, so in the end it is as many as the links that were shown.
use Rattle.std.proofs.Common.{ℕ, ◌≡◌, ◌+◌, ◌%◌, ◌^◌, List, length, refl, sym, ap, ◌∙◌}
use Rattle.std.specs.List.{FoldsTo}
use Rattle.std.proofs.lemmas.Fn.{chained_keeps}
use Rattle.std.proofs.lemmas.List.{length_push}
use Rattle.std.proofs.Math.Nat.{suc-mod}
use Rattle.std.proofs.Math.Numerals.{add-one}
use Rattle.guppy_tests.specs.declared.visitors.Odd.{Odd}
use Rattle.guppy_tests.proofs.visitors.odd_calls.Goals as goal

one_more : (n m : ℕ) → (n % m + 1) % m ≡ (n + 1) % m
one_more n m =
    ap (λ k. k % m) (add-one (n % m)) ∙ sym (suc-mod n m) ∙ ap (λ k. k % m) (sym (add-one n))

-- a count that each step raises by one, and wraps around, is that of the steps
counts_steps : {S X : Type 0} (count : S → ℕ) (m : ℕ) (R : S → X → S → Type 0)
    (step : (s : S) (x : X) (t : S) → R s x t → count t ≡ (count s + 1) % m)
    (xs : List X) (s t : S) → count s ≡ 0 % m → FoldsTo R s xs t → count t ≡ length xs % m
counts_steps count m R step =
    chained_keeps R (λ xs s. count s ≡ length xs % m)
    (λ xs s x t h r. step s x t r ∙ ap (λ n. (n + 1) % m) h ∙ one_more (length xs) m
    ∙ ap (λ n. n % m) (sym (length_push xs x)))

pub returns : goal.returns
returns c =
    let s = c.in_ok-_set.ensures.judged in (
      s.0,
      c.in_ok-_set._set.included,
      s.1,
      counts_steps (λ (v : Odd). v.calls) (2 ^ 64) _ (λ v e w r. r.0) s.0 _ _ refl s.2,
    )
