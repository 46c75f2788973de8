use Rattle.std.proofs.Common.{◌∙◌, ◌++◌, sym, ap, append_assoc, string_bytes}
use Rattle.std.specs.Char.{encode_utf8}
use Rattle.guppy_dot.specs.Quoted.{escaped}
use Rattle.guppy_dot.proofs.EscapedTexts.{escaped_push}
use Rattle.guppy_dot.proofs.quoted.push_escaped.Goals as goal

pub loop-character-preserved : goal.loop-character-preserved
loop-character-preserved c =
    c.in_ok-push_character.ensures
    ∙ ap (λ l. l ++ escaped (encode_utf8 c.in-Some.character)) c.loop-character.invariant
    ∙ append_assoc _ _ (escaped (encode_utf8 c.in-Some.character))
    ∙ ap (λ l. string_bytes c.args.text.now ++ l) (sym (escaped_push c.loop-character.yielded c.in-Some.character))
