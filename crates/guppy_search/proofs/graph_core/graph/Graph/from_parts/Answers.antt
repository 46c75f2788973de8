use Rattle.std.proofs.Common.{◌≡◌, ◌∙◌, length, sym, ap}
use Rattle.std.proofs.lemmas.List.{length-map}
use Rattle.guppy_search.specs.Links.{links_between}
use Rattle.guppy_search.proofs.LinkEnds.{between-bare}
use Rattle.guppy_search.proofs.graph_core.graph.Graph.from_parts.Goals as goal

pub from_ends-requires : goal.from_ends-requires
from_ends-requires g c =
    ap length c.in_ok-ends.ensures ∙ (length-map _ _ ∙ (ap length c.as_slice.ensures.value ∙ (sym (length-map _ _) ∙ sym (ap length c.in_ok-edges.ensures))))

pub returns-clause-links : goal.returns-clause-links
returns-clause-links g c =
    let links : links_between c.in_ok-ends.ends.items c.in_ok-edges.edges.items ≡ c.args.links.items = rw (c.in_ok-ends.ensures, c.in_ok-edges.ensures, c.as_slice.ensures.value) (between-bare c.args.links.items) in
    rw links at c.from_ends.ensures.links

pub returns-clause-fault : goal.returns-clause-fault
returns-clause-fault g c =
    let links : links_between c.in_ok-ends.ends.items c.in_ok-edges.edges.items ≡ c.args.links.items = rw (c.in_ok-ends.ensures, c.in_ok-edges.ensures, c.as_slice.ensures.value) (between-bare c.args.links.items) in
    rw links at c.from_ends.ensures.fault
