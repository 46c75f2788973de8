use Rattle.std.proofs.Common.{◌∙◌, ◌||◌, ap, sym, string_bytes}
use Rattle.std.specs.Str.{bytes_eq}
use Rattle.guppy_metadata.proofs.TextLists.{among_more, among_first}
use Rattle.guppy_metadata.proofs.target.is_among.Goals as goal

pub returns-then-eq : goal.returns-then-eq
returns-then-eq c =
    let more = among_more (bytes_eq c.args.wanted.now) string_bytes c.args.texts.now c.loop-text.text-index _ _ c.loop-text-test.true c.text-item.is in
    sym (among_first (bytes_eq c.args.wanted.now) string_bytes c.args.texts.now _ (more ∙ (ap (λ b. b || bytes_eq c.args.wanted.now (string_bytes c.text-item.result)) c.loop-text.invariant ∙ (ap (bytes_eq c.args.wanted.now) (sym c.as_str.ensures.value) ∙ sym c.if-eq.ensures))))

pub loop-text-preserved : goal.loop-text-preserved
loop-text-preserved c =
    let more = among_more (bytes_eq c.args.wanted.now) string_bytes c.args.texts.now c.loop-text.text-index _ _ c.loop-text-test.true c.text-item.is in
    more ∙ (ap (λ b. b || bytes_eq c.args.wanted.now (string_bytes c.text-item.result)) c.loop-text.invariant ∙ (ap (bytes_eq c.args.wanted.now) (sym c.as_str.ensures.value) ∙ sym c.if-eq.ensures))
