use Rattle.std.proofs.Common.{rules, refl, ◌≡◌, ◌∙◌, sym, ◌∷◌, Some, None, false}
use Rattle.guppy_lines.specs.Text.{words}
use Rattle.guppy_command.specs.Text.{is_empty, section_of}
use Rattle.guppy_lines.proofs.Cuts.{full_is, section_word, link_unsectioned}
use Rattle.guppy_lines.proofs.statements.link_of.Goals as goal

pub returns-in_err-section : goal.returns-in_err-section
returns-in_err-section c =
    let from = c.cut.result.0.now in
    let to = c.cut-2.result.0.now in
    let rest = c.in_ok-rest-2.field-0.now in
    let all : words c.args.text.now ≡ from ∷ to ∷ words rest = search rules in
    let none : section_of rest ≡ None = search rules in
    rw (c.from_residual-in_err-section.ensures, all) (sym (link_unsectioned from to rest none))

pub returns : goal.returns
returns c =
    let from = c.cut.result.0.now in
    let to = c.cut-2.result.0.now in
    let rest = c.in_ok-rest-2.field-0.now in
    let section = c.in_ok-section.section in
    let all : words c.args.text.now ≡ from ∷ to ∷ words rest = search rules in
    let some : section_of rest ≡ Some section = search rules in
    let has_from : is_empty from ≡ false = full_is from (sym c.is_empty.ensures ∙ c.if-is_empty.false) in
    let has_to : is_empty to ≡ false = full_is to (sym c.is_empty-else-is_empty.ensures ∙ c.if-is_empty-2.false) in
    rw (all, section_word rest section some, has_from, has_to, some) refl
