use Rattle.std.proofs.Common.{◌≡◌, ◌∙◌}
use Rattle.guppy_flat.proofs.sets.links.Goals as goal

pub returns-clause-links : goal.returns-clause-links
returns-clause-links c =
    let set = c.args.set.now in
    let ordered = c.in_ok-components.ensures in
    let same : c.from_included-included.result ≡ set = c.from_included-included.ensures ∙ c.in_ok-set_of.ensures in
    let found = c.in_ok-walked.ensures in
    let list = c.in_ok-numbers_of.ensures in
    record {
      walked = rw list (rw (same, c.in_ok-graph.ensures.links) at (found.reach ordered.index ordered.components_are));
      all = rw list (rw (same, c.in_ok-graph.ensures.links) at (found.all ordered.index ordered.components_are));
    }
