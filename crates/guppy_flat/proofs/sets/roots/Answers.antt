use Rattle.std.proofs.Common.{◌≡◌, ◌<◌, ◌∙◌, length}
use Rattle.guppy_search.proofs.Members.{IsIn-below}
use Rattle.guppy_core.proofs.Listings.{all_standing}
use Rattle.guppy_flat.proofs.sets.roots.Goals as goal

pub mark_each-requires : goal.mark_each-requires
mark_each-requires c =
    let set = c.args.set.now in
    let same : c.from_included-included.result ≡ set = c.from_included-included.ensures ∙ c.in_ok-set_of.ensures in
    let are = rw same at c.in_ok-roots.ensures.roots in
    rw c.as_slice.ensures.value (all_standing _ (λ p. p < length c.args.marks.now) c.in_ok-roots.roots.items (λ p s. rw c.requires (IsIn-below set p ((are.members p).0 s).0)))

pub returns-clause-roots : goal.returns-clause-roots
returns-clause-roots c =
    let d = c.args.direction in
    let set = c.args.set.now in
    let ordered = c.in_ok-components.ensures in
    let same : c.from_included-included.result ≡ set = c.from_included-included.ensures ∙ c.in_ok-set_of.ensures in
    let are = rw (same, c.in_ok-graph.ensures.links) at (c.in_ok-roots.ensures.reach ordered.index ordered.components_are) in
    let marked = rw c.as_slice.ensures.value at c.mark_each.ensures in
    λ p. (λ h. (are.members p).0 ((marked p).0 h), λ r. (marked p).1 ((are.members p).1 r))
