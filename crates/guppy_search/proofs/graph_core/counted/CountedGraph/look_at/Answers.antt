use Rattle.std.proofs.Common.{◌≡◌, ◌<◌, length, refl, sym, subst}
use Rattle.std.proofs.lemmas.Option.{slice_get_within}
use Rattle.guppy_search.specs.Links.{links_at, near_end, far_end, seen_link}
use Rattle.std.specs.Prelude.{slice_index}
use Rattle.guppy_search.proofs.Rows.{row_links}
use Rattle.guppy_search.proofs.Ends.{link_beside}
use Rattle.guppy_search.proofs.graph_core.counted.CountedGraph.look_at.Goals as goal

pub link-link-requires-clause-number : goal.link-link-requires-clause-number
link-link-requires-clause-number g c =
    let links = c.self.inside.graph.now.links in
    let place : c.args.k < length (links_at c.args.direction links c.args.position) = rw (← c.self.view_is) at c.requires.place in
    let at = row_links c.args.direction links c.args.position c.args.k place in
    let within = slice_get_within _ _ at.link at.found in
    rw (← c.self.view_is, c.links_at.ensures.links) within

pub returns-clause-link : goal.returns-clause-link
returns-clause-link g c =
    let links = c.self.inside.graph.now.links in
    let place : c.args.k < length (links_at c.args.direction links c.args.position) = rw (← c.self.view_is) at c.requires.place in
    let at = link_beside links c.args.direction c.args.position c.args.k c.links_at.result.now c.far_ends_at.result.now c.links_at.ensures.links c.far_ends_at.ensures.ends (rw c.links_at.ensures.links place) in
    let found = rw (← c.self.view_is) at c.link-link.ensures.link in
    let same : at.link ≡ (seen_link c.link-link.result) = let f = at.found in cc in
    let near : near_end c.args.direction (seen_link c.link-link.result) ≡ c.args.position = subst (λ z. near_end c.args.direction z ≡ c.args.position) same at.near in
    let far : far_end c.args.direction (seen_link c.link-link.result) ≡ slice_index c.far_ends_at.result.now c.args.k = subst (λ z. far_end c.args.direction z ≡ slice_index c.far_ends_at.result.now c.args.k) same (sym at.far_is) in
    rw (← c.self.view_is) ((seen_link c.link-link.result), found, near, far, refl)
