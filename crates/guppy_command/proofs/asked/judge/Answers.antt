use Rattle.std.proofs.Common.{◌∙◌, sym, ap, map, option_map}
use Rattle.guppy_command.specs.Asked.{judged}
use Rattle.guppy_command.specs.Shown.{argument_shown, row_shown}
use Rattle.guppy_command.proofs.Asking.{judged_again, judged_often, judged_once}
use Rattle.guppy_command.proofs.asked.judge.Goals.{else-has-via-then-has+else-not-may_repeat, else-has-via-else-has}
use Rattle.guppy_command.proofs.asked.judge.Goals as goal

pub returns-then-not-may_repeat : goal.returns-then-not-may_repeat
returns-then-not-may_repeat c =
    let options = map row_shown c.args.program.now.options.now in
    let behind = map argument_shown c.args.behind.now in
    let value = option_map (λ text. text.now) c.in-Option.field-1 in
    ap (λ argument. judged options c.args.command.now (argument_shown argument) behind) c.in-Option.is
    ∙ judged_again options c.args.command.now c.in-Option.name.now value behind (sym c.takes.ensures ∙ c.if-not-takes.false) (sym c.has.ensures ∙ c.if-has.true) (sym c.may_repeat.ensures ∙ c.if-not-may_repeat.true)

pub returns : goal.returns
returns c =
    let options = map row_shown c.args.program.now.options.now in
    let behind = map argument_shown c.args.behind.now in
    let value = option_map (λ text. text.now) c.in-Option.field-1 in
    let taken = sym c.takes.ensures ∙ c.if-not-takes.false in
    ap (λ argument. judged options c.args.command.now (argument_shown argument) behind) c.in-Option.is
    ∙ elim c.else-has.branch [
      | else-has-via-then-has+else-not-may_repeat w ↦ judged_often options c.args.command.now c.in-Option.name.now value behind taken (sym c.has.ensures ∙ w.if-has.true) (sym w.may_repeat.ensures ∙ w.if-not-may_repeat.false)
      | else-has-via-else-has w ↦ judged_once options c.args.command.now c.in-Option.name.now value behind taken (sym c.has.ensures ∙ w.if-has.false)
    ]
