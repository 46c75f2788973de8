use Rattle.std.proofs.Common.{◌∙◌, [], refl, sym, ap}
use Rattle.guppy_command.specs.Asked.{command_in}
use Rattle.guppy_command.specs.Shown.{program_shown, texts}
use Rattle.guppy_command.proofs.Asking.{known_command, no_such_command}
use Rattle.guppy_command.proofs.FirstItems.{first_and_rest}
use Rattle.guppy_command.proofs.asked.command_in.Goals as goal

pub returns-then-is_among : goal.returns-then-is_among
returns-then-is_among c =
    let p = program_shown c.args.program.now in
    ap (λ words. command_in p (texts words)) (first_and_rest c.args.words.now _ (record { ref_ptr = (0, 0); now = [] }) c.in-len1-up.len_at_least refl)
    ∙ known_command p _ _ (sym c.is_among.ensures ∙ c.if-is_among.true)

pub returns-else-is_among : goal.returns-else-is_among
returns-else-is_among c =
    let p = program_shown c.args.program.now in
    ap (λ words. command_in p (texts words)) (first_and_rest c.args.words.now _ (record { ref_ptr = (0, 0); now = [] }) c.in-len1-up.len_at_least refl)
    ∙ no_such_command p _ _ (sym c.is_among.ensures ∙ c.if-is_among.false)
