use Rattle.std.proofs.Common.{◌≡◌, ℕ, Bool, false, List, ◌∙◌, ap, refl, rules, slice_index_or}
use Rattle.std.specs.List.{All, FoldsTo}
use Rattle.std.proofs.lemmas.Fn.{chained_keeps}
use Rattle.std.proofs.lemmas.List.Elements.{All-nil, All-push}
use Rattle.guppy_core_tests.proofs.tables.by_table.Goals as goal

-- the answers of a closure whose states all have I, and which answers a test of the link
answers_by_test : {F : Type 0} (calls : F → ℕ × Bool → F → Type 0) (test : ℕ → Bool) (I : F → Type 0)
    (step : (q : F) (e : ℕ × Bool) (v : F) → I q → calls q e v → (e.1 ≡ test e.0) × I v)
    (trace : List (ℕ × Bool)) (f last : F) → I f → FoldsTo calls f trace last → All (λ e. e.1 ≡ test e.0) trace
answers_by_test calls test I step trace f last i h =
    (chained_keeps calls (λ es q. All (λ (e : ℕ × Bool). e.1 ≡ test e.0) es × I q)
    (λ es q e v j k. let r = step q e v j.1 k in (All-push (λ (x : ℕ × Bool). x.1 ≡ test x.0) es e j.0 r.0, r.1))
    trace f last (All-nil (λ (e : ℕ × Bool). e.1 ≡ test e.0), i) h).0

pub returns : goal.returns
returns g c =
    let s = c.in_ok-set.ensures.judged in (
      s.0,
      s.2,
      answers_by_test _ (λ n. slice_index_or c.args.is_open.now n false) (λ q. q.0 ≡ c.args.is_open)
          (λ q e v i k.
          let a : e.1 ≡ slice_index_or q.0.now e.0 false = search rules in
          let b : v.0 ≡ q.0 = search rules in
          (a ∙ ap (λ r. slice_index_or r.now e.0 false) i, b ∙ i)) s.0 _ _ refl s.3,
    )
