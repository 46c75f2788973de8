use Rattle.std.proofs.Common.{◌∙◌, sym, ap}
use Rattle.guppy_graph.specs.Graph.{GraphData}
use Rattle.guppy_graph.specs.Ids.{ids_of}
use Rattle.guppy_metadata_tests.proofs.callers.graph.packages_to_vendor.Goals as goal

pub difference-requires : goal.difference-requires
difference-requires c = record { same_packages = ap (λ (g : GraphData). ids_of g.packages) (c.in_ok-needed.ensures.graph ∙ c.in_ok-query.ensures.graph ∙ sym c.in_ok-members.ensures.graph) }

pub returns-clause-needed : goal.returns-clause-needed
returns-clause-needed c p =
    let query = c.in_ok-query.ensures in
    let reached = rw (query.direction, query.graph) at (c.in_ok-needed.ensures.reached p) in
    let member = c.in_ok-members.ensures.members.members p in
    let both = c.in_ok-outside.ensures.members p in (
      λ h. let parts = both.0 h in let from = reached.0 parts.0 in
          ((from.0, (query.initials.members from.0).0 from.1, from.2), λ m. parts.1 (member.1 m)),
      λ h. both.1 (reached.1 (h.0.0, (query.initials.members h.0.0).1 h.0.1, h.0.2), λ m. h.1 (member.0 m)),
    )
