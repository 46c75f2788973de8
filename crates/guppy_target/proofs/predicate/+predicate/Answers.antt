use Rattle.std.proofs.Common.{◌≡◌, ℕ, ◌-◌, ◌<◌, None, sym, ap, ◌∙◌, arith, rules}
use Rattle.std.specs.Prelude.{option_and_then}
use Rattle.guppy_target.specs.Reading.{predicate_at, predicate_from, truth_of}
use Rattle.guppy_target.proofs.Turns.{ends, fails, more, last, unclosed, no_levels, level}
use Rattle.guppy_target.proofs.Soundness.{no_longer}
use Rattle.guppy_target.proofs.predicate.+predicate.Goals as goal

pub operands_at-returns-in-Some : goal.operands_at-returns-in-Some
operands_at-returns-in-Some t c =
    let l = c.loop-rest in
    sym (l.invariant.2 ∙ ends _ _ l.every l.one l.invariant.0 l.text.now c.in-Some.rest.now (omega (arith, c.in-Some.ensures.shorter, l.invariant.1)) (sym c.in-Some.ensures.read))

pub operands_at-returns-in_err-holds : goal.operands_at-returns-in_err-holds
operands_at-returns-in_err-holds t c =
    let l = c.loop-rest in
    let none : c.from_residual.result ≡ None = search rules in
    rw none (sym (l.invariant.2 ∙ fails _ _ l.every l.one l.invariant.0 l.text.now (sym c.in_default.ensures.read) (sym c.in_err-holds.ensures)))

pub operands_at-loop-rest-smaller : goal.operands_at-loop-rest-smaller
operands_at-loop-rest-smaller t c =
    let l = c.loop-rest in
    let most = no_longer c.args.platform.now.settings c.args.levels l.text.now c.in_ok-holds.holds c.in_ok-holds.behind.now (sym c.in_ok-holds.ensures) in
    omega (arith, most, c.in-Some-mark_at.ensures.shorter)

pub operands_at-loop-rest-preserved : goal.operands_at-loop-rest-preserved
operands_at-loop-rest-preserved t c =
    let l = c.loop-rest in
    let n = l.invariant.0 in
    let most = no_longer c.args.platform.now.settings c.args.levels l.text.now c.in_ok-holds.holds c.in_ok-holds.behind.now (sym c.in_ok-holds.ensures) in
    let some : 0 < n = omega (arith, most, l.invariant.1, c.in-Some-mark_at.ensures.shorter) in (
      n - 1,
      omega (arith, most, l.invariant.1, c.in-Some-mark_at.ensures.shorter),
      l.invariant.2 ∙ more _ _ l.every l.one n l.text.now c.in_ok-holds.holds c.in_ok-holds.behind.now c.in-Some-mark_at.more.now some
          (sym c.in_default.ensures.read) (sym c.in_ok-holds.ensures) (sym c.in-Some-mark_at.ensures.read),
    )

pub operands_at-returns-in_err-rest-in-None : goal.operands_at-returns-in_err-rest-in-None
operands_at-returns-in_err-rest-in-None t c =
    let l = c.loop-rest in
    let none : c.from_residual-in_err-rest-in-None.result ≡ None = search rules in
    rw none (sym (l.invariant.2 ∙ unclosed _ _ l.every l.one l.invariant.0 l.text.now c.in_ok-holds.holds c.in_ok-holds.behind.now
    (sym c.in_default.ensures.read) (sym c.in_ok-holds.ensures) (sym c.in-None.ensures.read) (sym c.in_err-rest-in-None.ensures.read)))

pub operands_at-returns-in-None : goal.operands_at-returns-in-None
operands_at-returns-in-None t c =
    let l = c.loop-rest in
    let most = no_longer c.args.platform.now.settings c.args.levels l.text.now c.in_ok-holds.holds c.in_ok-holds.behind.now (sym c.in_ok-holds.ensures) in
    let some : 0 < l.invariant.0 = omega (arith, most, l.invariant.1, c.in_ok-rest-in-None.ensures.shorter) in
    sym (l.invariant.2 ∙ last _ _ l.every l.one l.invariant.0 l.text.now c.in_ok-holds.holds c.in_ok-holds.behind.now c.in_ok-rest-in-None.rest.now some
    (sym c.in_default.ensures.read) (sym c.in_ok-holds.ensures) (sym c.in-None.ensures.read) (sym c.in_ok-rest-in-None.ensures.read))

pub predicate_at-returns-then-levels-eq0 : goal.predicate_at-returns-then-levels-eq0
predicate_at-returns-then-levels-eq0 t c =
    let zero : c.args.levels ≡ 0 = omega arith in
    ap (truth_of c.args.platform.now.settings) (sym (ap (λ (n : ℕ). predicate_at n c.args.text.now) zero ∙ no_levels c.args.text.now))

pub predicate_at-returns-in_err-word : goal.predicate_at-returns-in_err-word
predicate_at-returns-in_err-word t c =
    let none : c.from_residual.result ≡ None = search rules in
    let some : 0 < c.args.levels = omega arith in
    let read = level c.args.levels c.args.text.now some in
    rw none (ap (truth_of c.args.platform.now.settings)
    (sym (read ∙ ap (option_and_then (λ x. predicate_from (predicate_at (c.args.levels - 1)) x.0 x.1)) (sym c.in_err-word.ensures))))

pub predicate_at-returns : goal.predicate_at-returns
predicate_at-returns t c =
    let some : 0 < c.args.levels = omega arith in
    let read = level c.args.levels c.args.text.now some in
    c.predicate_from.ensures ∙ ap (truth_of c.args.platform.now.settings)
    (sym (read ∙ ap (option_and_then (λ x. predicate_from (predicate_at (c.args.levels - 1)) x.0 x.1)) (sym c.in_ok-word.ensures)))
