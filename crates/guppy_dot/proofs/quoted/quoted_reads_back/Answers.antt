use Rattle.std.proofs.Common.{◌∙◌, sym, ◌∷◌, [], ◌++◌, append_assoc}
use Rattle.guppy_dot.specs.Quoted.{escaped}
use Rattle.guppy_dot.proofs.EscapedTexts.{delimited, firsts}
use Rattle.guppy_dot.proofs.quoted.quoted_reads_back.Goals as goal

pub returns : goal.returns
returns c = λ a b rest more same.
    let behind = (firsts 34 34 ((escaped a ++ 34 ∷ []) ++ rest) ((escaped b ++ 34 ∷ []) ++ more) same).1 in
    delimited a b rest more (sym (append_assoc (escaped a) (34 ∷ []) rest) ∙ behind ∙ append_assoc (escaped b) (34 ∷ []) more)
