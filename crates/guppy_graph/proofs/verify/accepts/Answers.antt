use Rattle.std.proofs.Common.{◌≡◌, ◌∙◌, ap, arith, sym, inl, inr, ⊎_elim, length}
use Rattle.std.specs.Prelude.{vec_len}
use Rattle.std.proofs.lemmas.Bool.{eqb-true, eqb-false}
use Rattle.std.proofs.lemmas.List.{nil_from_length}
use Rattle.guppy_graph.proofs.VerifiedGraphs.{star_is_empty, empty_is_star}
use Rattle.guppy_graph.proofs.verify.accepts.Goals as goal

pub returns-then-is_empty : goal.returns-then-is_empty
returns-then-is_empty c =
    let req = c.args.req.now in
    let zero_ : vec_len req.comparators ≡ 0 = eqb-true (vec_len req.comparators) 0 (sym c.is_empty.ensures ∙ c.if-is_empty.true) in
    (λ _. inl (empty_is_star req (nil_from_length req.comparators.items (omega (arith, req.comparators.ok.0)))), λ _. c.if-is_empty.true)

pub returns-else-is_empty : goal.returns-else-is_empty
returns-else-is_empty c =
    let req = c.args.req.now in
    let some_ : vec_len req.comparators ≡ 0 → ⊥ = eqb-false (vec_len req.comparators) 0 (sym c.is_empty.ensures ∙ c.if-is_empty.false) in
    (λ yes_. inr (sym c.matches.ensures ∙ yes_), λ accepts. ⊎_elim (λ star. absurd (some_ (let none = ap length (star_is_empty req star) in omega (arith, req.comparators.ok.0)))) (λ matches. c.matches.ensures ∙ matches) accepts)
