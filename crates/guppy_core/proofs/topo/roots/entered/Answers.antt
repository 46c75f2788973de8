use Rattle.std.proofs.Common.{◌≡◌, ℕ, ◌<◌, ◌≤◌, false, length, refl, sym, ◌∙◌, arith}
use Rattle.std.proofs.Math.ListN.{length-replicate}
use Rattle.std.proofs.lemmas.Option.{slice_get_within}
use Rattle.guppy_search.specs.declared.ix.direction.DependencyDirection.TheVariants.{Forward}
use Rattle.guppy_search.specs.Links.{seen_link}
use Rattle.guppy_search.proofs.SearchSteps.{far_end_below}
use Rattle.guppy_search.proofs.Exits.{if_ok, on_ok}
use Rattle.guppy_core.proofs.Costs.{one_more}
use Rattle.guppy_core.proofs.Entrances.{EntersAt, enters_one, enters_itself, enters_dropped, entered_is, enters_within}
use Rattle.guppy_core.proofs.RowSets.{gathered_none, gathered_one, gathered_skipped, gathered_whole}
use Rattle.guppy_core.proofs.Notes.{noted_more, noted_last}
use Rattle.guppy_core.proofs.topo.roots.entered.Goals.{then-is_kept+then-link, else-is_kept, else-is_kept-via-then-is_kept+else-link, else-is_kept-via-else-is_kept}
use Rattle.guppy_core.proofs.topo.roots.entered.Goals as goal

pub loop-number-preserved : goal.loop-number-preserved
loop-number-preserved g c =
    let graph = c.args.graph.now.graph in
    let number = c.loop-number.number in
    let entered = c.loop-number.invariant.entered in
    let link = seen_link c.link-link.result in
    let found = rw c.loop-number.invariant.graph at c.link-link.ensures.link in
    let is : c.keep-is_kept.result ≡ g.kept link.edge = c.requires.1.1.1.1.1.1.1.0 number link c.link-link.result.edge found refl _ c.keep-is_kept.ensures in
    let within : number < length c.loop-number.notes = let low = slice_get_within graph.links number link found in let count = c.requires.1.1.1.1.1.1.1.1 in let same = c.loop-number.auto.notes in omega arith in
    let noted = noted_more g.kept graph.links number c.loop-number.notes c.loop-number.invariant.noted link c.keep-is_kept.result found is within in
    elim c.if-is_kept.branch [
      | then-is_kept+then-link w ↦
          let below : link.to < length c.loop-number.set = let low = far_end_below Forward graph.links (length graph.nodes) number link found c.node_count.ensures.graph.ends in let size = entered.size ∙ length-replicate (length graph.nodes) false in omega arith in
          rw (w.set-is, w.insert_position.ensures.after, c.link-link.ensures.counted) (record {
            entered = gathered_one number c.loop-number.set entered link.to below (enters_one g.kept graph.links number link found (sym is ∙ w.if-is_kept.true) w.if-link.true);
            noted = noted;
            graph = c.loop-number.invariant.graph;
            looked = rw c.loop-number.invariant.looked (one_more _ _);
          })
      | else-is_kept w ↦
          let none : (p : ℕ) → EntersAt g.kept graph.links number p → ⊥ = elim w.else-is_kept.branch [
            | else-is_kept-via-then-is_kept+else-link w' ↦ enters_itself g.kept graph.links number link found w'.if-link.false
            | else-is_kept-via-else-is_kept w' ↦ enters_dropped g.kept graph.links number link found (sym is ∙ w'.if-is_kept.false)
          ] in
          rw (w.set-is, c.link-link.ensures.counted) (record {
            entered = gathered_skipped number c.loop-number.set entered none;
            noted = noted;
            graph = c.loop-number.invariant.graph;
            looked = rw c.loop-number.invariant.looked (one_more _ _);
          })
    ]

pub returns-clause-noted : goal.returns-clause-noted
returns-clause-noted g c =
    let links = c.args.graph.now.graph.links in
    let all : length links ≤ c.loop-number.number = let count = c.link_count-number-end.ensures in let t = c.loop-number-test.false in omega arith in
    noted_last g.kept links c.loop-number.number c.loop-number.notes c.loop-number.invariant.noted all

pub returns-clause-members : goal.returns-clause-members
returns-clause-members g c =
    let graph = c.args.graph.now.graph in
    let all : length graph.links ≤ c.loop-number.number = let count = c.link_count-number-end.ensures in let t = c.loop-number-test.false in omega arith in
    λ p.
    let is = gathered_whole _ (length graph.nodes) c.loop-number.number c.loop-number.set c.loop-number.invariant.entered (enters_within g.kept graph.links c.loop-number.number all) p in
    let steps = entered_is g.kept graph.links p in
    (λ h. steps.0 (is.0 h), λ t. is.1 (steps.1 t))

pub returns-clause-once : goal.returns-clause-once
returns-clause-once g c =
    let looked = c.loop-number.invariant.looked in
    let count = c.link_count-number-end.ensures in
    let t = c.loop-number-test.false in
    let end = c.loop-number.auto.number-end in
    omega arith

pub loop-number-init : goal.loop-number-init
loop-number-init g c = rw (c.in_ok-set.ensures, c.node_count.ensures.count) (record {
  entered = gathered_none _ _;
  noted = λ n l low _. absurd (omega arith);
  graph = refl;
  looked = omega arith;
})

pub link-link-requires-clause-number : goal.link-link-requires-clause-number
link-link-requires-clause-number g c =
    let test = c.loop-number-test.true in
    let count = c.link_count-number-end.ensures in
    rw c.loop-number.invariant.graph (omega arith)

pub link-link-requires-clause-room : goal.link-link-requires-clause-room
link-link-requires-clause-room g c =
    let looked = c.loop-number.invariant.looked in
    let test = c.loop-number-test.true in
    let count = c.link_count-number-end.ensures in
    let room = c.requires.1.1.1.1.1.0 in
    omega arith

pub keep-is_kept-requires : goal.keep-is_kept-requires
keep-is_kept-requires g c =
    let found = rw c.loop-number.invariant.graph at c.link-link.ensures.link in
    c.requires.1.1.1.1.1.1.0 c.loop-number.number (seen_link c.link-link.result) c.link-link.result.edge found refl

pub bounds-notes-number : goal.bounds-notes-number
bounds-notes-number g c =
    let test = c.loop-number-test.true in
    let count = c.link_count-number-end.ensures in
    let notes = c.requires.1.1.1.1.1.1.1.1 in
    let same = c.loop-number.auto.notes in
    omega arith

pub insert_position-requires-clause-in_range : goal.insert_position-requires-clause-in_range
insert_position-requires-clause-in_range g c =
    let graph = c.args.graph.now.graph in
    let found = rw c.loop-number.invariant.graph at c.link-link.ensures.link in
    let below = far_end_below Forward graph.links (length graph.nodes) c.loop-number.number (seen_link c.link-link.result) found c.node_count.ensures.graph.ends in
    let size = c.loop-number.invariant.entered.size ∙ length-replicate (length graph.nodes) false in
    omega arith

pub insert_position-requires-clause-small : goal.insert_position-requires-clause-small
insert_position-requires-clause-small g c =
    let graph = c.args.graph.now.graph in
    let found = rw c.loop-number.invariant.graph at c.link-link.ensures.link in
    let below = far_end_below Forward graph.links (length graph.nodes) c.loop-number.number (seen_link c.link-link.result) found c.node_count.ensures.graph.ends in
    let few = c.node_count.ensures.graph.few_nodes in
    omega arith

pub returns-clause-count : goal.returns-clause-count
returns-clause-count g c = c.loop-number.invariant.entered.size ∙ length-replicate (length c.args.graph.now.graph.nodes) false

pub returns-clause-looks : goal.returns-clause-looks
returns-clause-looks g c =
    let looked = c.loop-number.invariant.looked in
    let count = c.link_count-number-end.ensures in
    let end = c.loop-number.auto.number-end in
    omega arith

pub returns-clause-counted : goal.returns-clause-counted
returns-clause-counted g c = let looked = c.loop-number.invariant.looked in omega arith

pub returns-clause-graph : goal.returns-clause-graph
returns-clause-graph g c = c.loop-number.invariant.graph

pub returns-in_err-set : goal.returns-in_err-set
returns-in_err-set g c = let none = c.from_residual.ensures.0 in record { noted = if_ok _ _ none; count = if_ok _ _ none; members = if_ok _ _ none; looks = omega arith; counted = omega arith; once = on_ok _ _ none; graph = refl }
