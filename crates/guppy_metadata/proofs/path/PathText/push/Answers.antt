use Rattle.std.proofs.Common.{◌≡◌, ◌++◌, ℕ, List, [], arith, codes, if◌then◌else◌, sym, ◌∙◌, false, true, ap}
use Rattle.std.proofs.lemmas.Grind.{common_steps}
use Rattle.std.specs.String.{string_bytes}
use Rattle.guppy_metadata.specs.Path.{text_of}
use Rattle.guppy_metadata.specs.PathText.{is_open}
use Rattle.guppy_metadata.proofs.Paths.{text_of-push, is_open-push}
use Rattle.guppy_metadata.proofs.path.PathText.push.Goals as goal
use Rattle.guppy_metadata.proofs.path.PathText.push.Goals.{then-self+in_ok-push_str, else-self}

pub returns : goal.returns
returns c parts before =
    let slash : string_bytes c.if-self.self.text ≡ text_of parts ++ (if is_open parts then codes "/" else []) =
    elim c.if-self.branch [
      | then-self+in_ok-push_str w ↦
          let wanted : is_open parts ≡ true = sym before.1 ∙ w.if-self.true in
          rw (wanted, w.self-is) (w.in_ok-push_str.ensures.bytes ∙ ap (λ (text : List ℕ). text ++ codes "/") before.0)
      | else-self w ↦
          let unwanted : is_open parts ≡ false = sym before.1 ∙ w.if-self.false in
          rw (unwanted, w.self-is) (grind (arith, common_steps))
    ] in
    (rw text_of-push (c.in_ok-push_str-2.ensures.bytes ∙ rw (slash, c.component_text.ensures)), rw is_open-push (grind (arith, common_steps)))
