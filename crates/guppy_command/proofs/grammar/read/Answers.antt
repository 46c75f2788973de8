use Rattle.std.proofs.Common.{◌≡◌, ◌∙◌, ◌∷◌, ◌++◌, [], Ok, Err, rules, sym, ap, map, subst, string_bytes, List, length, take, drop, ◌-◌}
use Rattle.std.proofs.lemmas.List.{map_push}
use Rattle.guppy_command.specs.Grammar.{Argument, Reads, first_at, goes_on, all_before}
use Rattle.guppy_command.specs.Shown.{argument_shown, program_shown, Unless, misread_shown}
use Rattle.guppy_command.proofs.FirstItems.{first_and_rest, none_left}
use Rattle.guppy_command.proofs.ReadArguments.{reads_ended, reads_others, reads_one, reads_stuck}
use Rattle.guppy_command.proofs.ShownItems.{IfSome-from}
use Rattle.guppy_command.proofs.grammar.read.Goals as goal

pub returns-then-not-goes_on : goal.returns-then-not-goes_on
returns-then-not-goes_on c =
    let p = program_shown c.args.program.now in
    let all = map string_bytes c.args.words.now in
    let rest = map string_bytes c.loop-rest.rest.now in
    let front = map argument_shown c.loop-rest.given.items in
    let next = ap (map string_bytes) (first_and_rest c.loop-rest.rest.now _ _ c.in-len1-up.len_at_least c.word-item.is) in
    let ends : goes_on p (string_bytes c.word-item.result) ≡ _ = ap (goes_on p) (sym c.as_str-text.ensures.value) ∙ sym c.goes_on.ensures ∙ c.if-not-goes_on.true in
    subst (λ (given : List Argument). Reads p all (Ok given)) (sym c.in_ok-add_words.ensures) (reads_others p all rest front c.loop-rest.invariant _ _ next ends)

pub returns-in_err-argument : goal.returns-in_err-argument
returns-in_err-argument c =
    let p = program_shown c.args.program.now in
    let all = map string_bytes c.args.words.now in
    let rest = map string_bytes c.loop-rest.rest.now in
    let front = map argument_shown c.loop-rest.given.items in
    let next = ap (map string_bytes) (first_and_rest c.loop-rest.rest.now _ _ c.in-len1-up.len_at_least c.word-item.is) in
    let behind = map string_bytes (take (length c.loop-rest.rest.now - 1) (drop 1 c.loop-rest.rest.now)) in
    let goes : goes_on p (string_bytes c.word-item.result) ≡ _ = ap (goes_on p) (sym c.as_str-text.ensures.value) ∙ sym c.goes_on.ensures ∙ c.if-not-goes_on.false in
    let is : c.from_residual-in_err-argument.result ≡ Err c.in_err-argument.field-0.0 = search rules in
    subst (λ r. Unless (λ given. map argument_shown given.items) (Reads p all) r) (sym is)
    (IfSome-from (misread_shown c.in_err-argument.field-0.0) _ _ c.in_err-argument.ensures.first (λ misread stuck. reads_stuck p all rest front c.loop-rest.invariant _ _ next misread goes (ap (λ t. first_at p t behind) (sym c.as_str-text.ensures.value) ∙ stuck)))

pub loop-rest-preserved : goal.loop-rest-preserved
loop-rest-preserved c outcome more =
    let p = program_shown c.args.program.now in
    let all = map string_bytes c.args.words.now in
    let rest = map string_bytes c.loop-rest.rest.now in
    let front = map argument_shown c.loop-rest.given.items in
    let next = ap (map string_bytes) (first_and_rest c.loop-rest.rest.now _ _ c.in-len1-up.len_at_least c.word-item.is) in
    let behind = map string_bytes (take (length c.loop-rest.rest.now - 1) (drop 1 c.loop-rest.rest.now)) in
    let goes : goes_on p (string_bytes c.word-item.result) ≡ _ = ap (goes_on p) (sym c.as_str-text.ensures.value) ∙ sym c.goes_on.ensures ∙ c.if-not-goes_on.false in
    let first = ap (λ t. first_at p t behind) (sym c.as_str-text.ensures.value) ∙ c.in_ok-argument.ensures.first in
    let pushed : map argument_shown c.push.new.self.items ≡ front ++ argument_shown c.in_ok-argument.argument ∷ [] = ap (map argument_shown) c.in_ok-push.ensures.items ∙ map_push argument_shown c.loop-rest.given.items c.in_ok-argument.argument in
    subst (λ (given : List Argument). Reads p all (all_before given outcome)) (sym pushed)
    (reads_one p all rest front c.loop-rest.invariant _ _ next _ _ goes first outcome more)

pub returns : goal.returns
returns c = reads_ended (program_shown c.args.program.now) (map string_bytes c.args.words.now) (map string_bytes c.loop-rest.rest.now) (map argument_shown c.loop-rest.given.items) c.loop-rest.invariant (none_left string_bytes c.loop-rest.rest.now c.in_default.len_below)
