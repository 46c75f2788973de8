use Rattle.guppy_search.specs.Links.{seen_link}
use Rattle.guppy_search.specs.Graph.{NoLink, LinkIs}
use Rattle.guppy_graph.specs.Ids.{ix_position}
use Rattle.guppy_graph.proofs.Rounds.{firm_by_link, firm_by_none}
use Rattle.guppy_graph.proofs.graph.RecordGraph.has_firm_link.Goals as goal

pub returns-in-Some : goal.returns-in-Some
returns-in-Some c =
    let g = c.args.self.now in
    let is : LinkIs g.links (ix_position c.args.from) (ix_position c.args.to) c.in-Some.number = rw c.dep_graph.ensures.links at c.in-Some.ensures in
    rw c.is_dev_only.ensures (firm_by_link g.links c.dep_graph.ensures.graph.graph.single (ix_position c.args.from) (ix_position c.args.to) c.in-Some.number (seen_link c.link_at.result) c.link_at.ensures.at is)

pub returns-in-None : goal.returns-in-None
returns-in-None c =
    let g = c.args.self.now in
    let none : NoLink g.links (ix_position c.args.from) (ix_position c.args.to) = rw c.dep_graph.ensures.links at c.in-None.ensures in
    (λ h. absurd (cc), λ s. absurd (firm_by_none g.links (ix_position c.args.from) (ix_position c.args.to) none s))
