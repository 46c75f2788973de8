use Rattle.std.proofs.Common.{sym, arith}
use Rattle.std.specs.Prelude.{not}
use Rattle.guppy_target.specs.Grammar.{is_of_word}
use Rattle.guppy_target.proofs.Places.{place_is, place-le, no_place_is}
use Rattle.guppy_target.proofs.text.word_len.Goals as goal

pub returns-in-Some-clause-len : goal.returns-in-Some-clause-len
returns-in-Some-clause-len c = place_is (λ b. not (is_of_word b)) c.args.text.now c.in-Some.len (sym c.in-Some.ensures)

pub returns-in-Some-clause-bound : goal.returns-in-Some-clause-bound
returns-in-Some-clause-bound c =
    let is = place_is (λ b. not (is_of_word b)) c.args.text.now c.in-Some.len (sym c.in-Some.ensures) in
    let most = place-le (λ b. not (is_of_word b)) c.args.text.now in
    omega (arith, is, most)

pub returns-in-None-clause-len : goal.returns-in-None-clause-len
returns-in-None-clause-len c = no_place_is (λ b. not (is_of_word b)) c.args.text.now (sym c.in-None.ensures)
