use Rattle.std.proofs.Common.{◌≡◌, ◌∙◌, sym, ap, ◌++◌, codes}
use Rattle.guppy_lines.specs.Text.{statement_of_words}
use Rattle.guppy_lines.proofs.Cuts.{package_words, link_words, no_statement}
use Rattle.guppy_lines.proofs.statements.statement_of_text.Goals as goal

pub returns-in-Some : goal.returns-in-Some
returns-in-Some c =
    let stripped = c.in-Some.ensures.cases in
    let begins : c.args.text.now ≡ codes "package " ++ c.in-Some.words.now = stripped.1.1 ∙ ap (λ l. codes "package " ++ l) (sym stripped.2) in
    c.package_of.ensures ∙ ap statement_of_words (sym (package_words c.args.text.now c.in-Some.words.now begins))

pub returns-in_err-strip_prefix : goal.returns-in_err-strip_prefix
returns-in_err-strip_prefix c =
    rw c.from_residual.ensures (sym (no_statement c.args.text.now c.in_default.ensures.cases c.in_err-strip_prefix.ensures.cases))

pub returns : goal.returns
returns c =
    let rest = c.in_ok-strip_prefix.field-0.now in
    let stripped = c.in_ok-strip_prefix.ensures.cases in
    let begins : c.args.text.now ≡ codes "link " ++ rest = stripped.1.1 ∙ ap (λ l. codes "link " ++ l) (sym stripped.2) in
    c.link_of.ensures ∙ ap statement_of_words (sym (link_words c.args.text.now rest begins))
