use Rattle.std.proofs.Common.{◌∙◌, refl, ap, ℕ, List, Bor, map}
use Rattle.std.proofs.lemmas.Iterator.{items_from_drains}
use Rattle.std.proofs.lemmas.Iterator.Consumers.{YieldsList-from_first}
use Rattle.guppy.specs.Listed.{listed_ids_left}
use Rattle.guppy_publish.proofs.ids_left.Goals as goal

pub returns-clause-ids : goal.returns-clause-ids
returns-clause-ids c =
    let ran = c.in_ok-collect.ensures.ran in
    let given = items_from_drains ran.0 ran.1 (YieldsList-from_first (λ (r : Bor (List ℕ)). r.now) listed_ids_left {s = c.args.ids} (listed_ids_left c.args.ids) refl) in
    ap (λ (ids : List (Bor (List ℕ))). map (λ r. r.now) ids) ran.2.0 ∙ given
