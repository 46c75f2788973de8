use Rattle.std.proofs.Common.{◌<◌, ◌≤◌, length, arith, sym}
use Rattle.std.proofs.lemmas.Option.{get_or_from_slice_get}
use Rattle.guppy_search.specs.declared.graph_core.link.Link.{Link}
use Rattle.guppy_search.specs.Links.{seen_link}
use Rattle.guppy_data.specs.declared.records.LinkRecord.{LinkRecord}
use Rattle.guppy_changes.specs.Shown.{LinkMarks, all_shown}
use Rattle.guppy_changes.proofs.Steps.{adds_of_none, adds_map_more, adds_map_all}
use Rattle.guppy_changes.proofs.links.add_links.Goals as goal

pub loop-number-init : goal.loop-number-init
loop-number-init c = adds_of_none LinkMarks (all_shown c.args.marks.now.items)

pub loop-number-preserved : goal.loop-number-preserved
loop-number-preserved c =
    let links = c.args.graph.now.links in
    let i = c.loop-number.number in
    let l = seen_link c.link_at.result in
    let below : i < length links = omega (arith, c.link_count-number-end.ensures, c.loop-number-test.true) in
    adds_map_more {R = LinkMarks} (λ (l : Link LinkRecord). l.edge) links i l below (sym (get_or_from_slice_get links i l l c.link_at.ensures.at)) c.loop-number.invariant c.in_ok-add_link.ensures

pub returns : goal.returns
returns c =
    let links = c.args.graph.now.links in
    let past : length links ≤ c.loop-number.number = omega (arith, c.link_count-number-end.ensures, c.loop-number-test.false) in
    adds_map_all {R = LinkMarks} (λ (l : Link LinkRecord). l.edge) links c.loop-number.number past c.loop-number.invariant
