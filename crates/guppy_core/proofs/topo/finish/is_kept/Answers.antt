use Rattle.std.proofs.Common.{true, sym, ◌∙◌}
use Rattle.std.proofs.lemmas.List.{get_or_default, get_or_past}
use Rattle.guppy_core.proofs.topo.finish.is_kept.Goals as goal

pub returns-in-Some : goal.returns-in-Some
returns-in-Some c =
    let look = c.in-Some.ensures.lookup in
    look.1 ∙ get_or_default c.args.notes.now c.args.number c.in-Some.noted.now true look.3.0

pub returns-in-None : goal.returns-in-None
returns-in-None c = sym (get_or_past c.args.notes.now c.args.number true c.in-None.ensures.lookup.3)
