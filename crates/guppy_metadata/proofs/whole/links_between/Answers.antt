use Rattle.std.proofs.Common.{◌∙◌, sym, subst}
use Rattle.std.proofs.lemmas.Bool.{false≢true}
use Rattle.guppy_metadata.specs.Fault.{LacksMemory}
use Rattle.guppy_metadata.proofs.Refused.{failed, part}
use Rattle.guppy_metadata.proofs.whole.links_between.Goals as goal

pub returns-in_err-check_members : goal.returns-in_err-check_members
returns-in_err-check_members c =
    failed _ _ _ _ c.from_residual.ensures
    (λ e is other links holds. false≢true (sym (c.in_err-check_members.ensures (λ lacks. other (subst LacksMemory (sym is) lacks))) ∙ holds.0))

pub returns : goal.returns
returns c = part _ _ _ _ c.within.ensures (λ links holds. (links, holds.1)) c.in-Err.ensures
