use Rattle.std.proofs.Common.{◌≡◌, ◌∙◌, length, refl, sym, ap, arith}
use Rattle.std.specs.Prelude.{slice_get}
use Rattle.std.proofs.lemmas.Option.{slice_get_read}
use Rattle.guppy_search.specs.Graph.{GraphValue}
use Rattle.guppy_search.specs.Links.{links_between}
use Rattle.guppy_search.proofs.LinkEnds.{length-between, link-between}
use Rattle.guppy_search.proofs.graph_core.graph.Graph.link.Goals as goal

pub index-ends-requires : goal.index-ends-requires
index-ends-requires g c =
    let links : links_between c.self.inside.ends.items c.self.inside.edges.items ≡ c.args.self.now.links = ap (λ (v : GraphValue g.row.G-Node.Denot g.row.G-Edge.Denot). v.links) c.self.view_is in
    let same = ap length links in
    let count = length-between c.self.inside.ends.items c.self.inside.edges.items c.self.invariant.paired in
    let within = c.requires in
    let ok = c.self.inside.ends.ok in
    omega arith

pub index-requires : goal.index-requires
index-requires g c =
    let links : links_between c.self.inside.ends.items c.self.inside.edges.items ≡ c.args.self.now.links = ap (λ (v : GraphValue g.row.G-Node.Denot g.row.G-Edge.Denot). v.links) c.self.view_is in
    let same = ap length links in
    let count = length-between c.self.inside.ends.items c.self.inside.edges.items c.self.invariant.paired in
    let paired = c.self.invariant.paired in
    let within = c.requires in
    let ok = c.self.inside.edges.ok in
    omega arith

pub returns-clause-link : goal.returns-clause-link
returns-clause-link g c =
    let links : links_between c.self.inside.ends.items c.self.inside.edges.items ≡ c.args.self.now.links = ap (λ (v : GraphValue g.row.G-Node.Denot g.row.G-Edge.Denot). v.links) c.self.view_is in
    let same = ap length links in
    let count = length-between c.self.inside.ends.items c.self.inside.edges.items c.self.invariant.paired in
    let paired = c.self.invariant.paired in
    let within = c.requires in
    let end = slice_get_read c.self.inside.ends.items _ c.args.number c.index-ends.result.now refl (omega arith) c.index-ends.ensures in
    let edge = slice_get_read c.self.inside.edges.items _ c.args.number c.index.result.now refl (omega arith) c.index.ensures in
    ap (λ ls. slice_get ls c.args.number) (sym links) ∙ link-between c.self.inside.ends.items c.self.inside.edges.items c.args.number c.index-ends.result.now c.index.result.now end edge
