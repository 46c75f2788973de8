use Rattle.std.proofs.Common.{◌∙◌, refl, ap, ℕ, List, Bor, map}
use Rattle.std.proofs.lemmas.Iterator.{items_from_drains}
use Rattle.std.proofs.lemmas.Iterator.Consumers.{YieldsList-from_first}
use Rattle.guppy.specs.ListedCycles.{cycle_left}
use Rattle.guppy_program.proofs.answer.row_of.Goals as goal

pub returns : goal.returns
returns c =
    let ran = c.in_ok-ids.ensures.ran in
    ap (map (λ (r : Bor (List ℕ)). r.now)) ran.2.0
    ∙ items_from_drains ran.0 ran.1 (YieldsList-from_first (λ (r : Bor (List ℕ)). r.now) cycle_left {s = c.args.cycle} (cycle_left c.args.cycle) refl)
