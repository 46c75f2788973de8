use Rattle.std.proofs.Common.{◌∙◌, ◌∷◌, ◌++◌, [], Some, map, refl, sym, ap, subst, arith}
use Rattle.std.proofs.lemmas.List.{flat_map_more, take_all}
use Rattle.json.specs.Json.{array}
use Rattle.json.specs.Value.{items_of, value_view}
use Rattle.guppy_metadata.specs.Buffer.{links_in}
use Rattle.guppy_metadata.specs.Fault.{LacksMemory}
use Rattle.guppy_metadata.specs.Links.{AreLinksOf, AreLinksOfAll}
use Rattle.guppy_metadata.proofs.FittingLists.{next_fits}
use Rattle.guppy_metadata.proofs.Refused.{failed, part}
use Rattle.guppy_metadata.proofs.WrongItems.{item_refused}
use Rattle.guppy_metadata.proofs.link.links_of.Goals as goal

pub loop-index-preserved : goal.loop-index-preserved
loop-index-preserved c =
    let fit = AreLinksOf c.args.packages.packages.now in
    let were = c.loop-index.invariant in
    let more = c.in_ok-add_node_at.ensures.added in
    let row = more.0 in record {
      rows = were.rows ++ row ∷ [];
      rows_are = next_fits fit value_view c.args.nodes.now c.loop-index.index c.index-nodes-index.result _ were.rows row c.loop-index-test.true c.index-nodes-index.is were.rows_are more.2;
      all = more.1 ∙ (ap (λ front. front ++ row) were.all ∙ flat_map_more (λ row. row) [] were.rows row);
    }

pub returns-in_err-add_node_at : goal.returns-in_err-add_node_at
returns-in_err-add_node_at c =
    let packages = c.args.packages.packages.now in
    let nodes = c.args.nodes.now in
    failed _ _ _ _ c.from_residual-in_err-add_node_at.ensures (λ e is.
    part (AreLinksOfAll packages (map value_view nodes)) _ e e (λ lacks. lacks) (λ links holds. (holds.rows, (map value_view nodes, refl, holds.rows_are)))
    (item_refused (Some (array (items_of (map value_view nodes)))) nodes nodes refl refl c.loop-index.index c.index-nodes-index.result _ c.loop-index-test.true c.index-nodes-index.is e
    (AreLinksOf packages) _ _ refl (λ lacks. subst LacksMemory (sym is) lacks) c.in_err-add_node_at.ensures.refused))

pub returns : goal.returns
returns c =
    let links = links_in c.loop-index.links in
    subst (λ links. AreLinksOfAll c.args.packages.packages.now (map value_view c.args.nodes.now) links) (sym c.into_vec.ensures)
    (subst (λ nodes. AreLinksOfAll c.args.packages.packages.now (map value_view nodes) links)
    (take_all c.loop-index.index c.args.nodes.now (let past = c.loop-index-test.false in omega arith)) c.loop-index.invariant)
