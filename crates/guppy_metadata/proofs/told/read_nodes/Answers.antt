use Rattle.std.proofs.Common.{◌∙◌, [], ◌∷◌, ◌++◌, refl, sym, ap, append_assoc, arith}
use Rattle.std.proofs.lemmas.List.{flat_map_more}
use Rattle.indexmap.proofs.SetLemmas.{AllZip-push}
use Rattle.json.specs.Json.{array}
use Rattle.json.specs.Value.{items_of}
use Rattle.guppy_metadata.specs.Buffer.{links_in}
use Rattle.guppy_metadata.specs.Links.{AreLinksOf}
use Rattle.guppy_metadata.proofs.LetGo.{none_let, all_further, positions_kept, links_of_whole}
use Rattle.guppy_metadata.proofs.Turns.{no_item_read, next_read, item_takes, list_told, of_ok}
use Rattle.guppy_metadata.proofs.told.read_nodes.Goals as goal

pub loop-left-init : goal.loop-left-init
loop-left-init g c = (
  [],
  no_item_read 125 _,
  none_let c.args.packages.now,
  [],
  c.in_ok-sink.ensures,
  record {
    rows = [];
    rows_are = tt;
    all = c.in_ok-left.ensures;
  },
)

pub read_node-requires : goal.read_node-requires
read_node-requires g c = positions_kept c.args.packages.now c.loop-left.packages c.args.positions.now c.loop-left.invariant.2 c.requires

pub loop-left-preserved : goal.loop-left-preserved
loop-left-preserved g c =
    let l = c.loop-left in
    let were = l.invariant in
    let node = c.in_ok-read_node.ensures.links in
    let row = node.2 in
    let before = were.3 in
    let took = of_ok _ _ c.take.result _ c.in_ok-ok.ensures.value c.take.ensures before were.4 in
    let all = were.5 in
    let more = took.0 in (
      were.0 ++ node.0 ∷ [],
      next_read 125 _ were.0 l.reader _ _ node.0 were.1 c.loop-left-test.ensures node.1,
      all_further c.args.packages.now l.packages _ were.2 c.in_ok-read_node.ensures.left,
      before ++ more,
      took.1,
      record {
        rows = all.rows ++ row ∷ [];
        rows_are = AllZip-push (AreLinksOf c.args.packages.now) _ _ _ _ all.rows_are (links_of_whole c.args.packages.now l.packages were.2 node.0 row node.4);
        all = append_assoc before more (links_in c.take.new.links)
            ∙ (ap (λ links. before ++ links) (sym took.2 ∙ node.3)
            ∙ (sym (append_assoc before (links_in l.left) row)
            ∙ (ap (λ front. front ++ row) all.all ∙ flat_map_more (λ row. row) [] all.rows row)));
      },
    )

pub loop-left-smaller : goal.loop-left-smaller
loop-left-smaller g c =
    let node = c.in_ok-read_node.ensures.links in
    item_takes 125 c.loop-left.reader _ _ node.0 c.loop-left-test.ensures node.1

pub returns-clause-links : goal.returns-clause-links
returns-clause-links g c =
    let were = c.loop-left.invariant in (
      array (items_of were.0),
      list_told 126 _ c.next.new.self _ were.0 c.loop-left.reader _ (omega arith) c.in-Some-BeginArray.ensures.value c.in-Some-BeginArray.field-0-is were.1 c.loop-left-test.ensures,
      were.3 ++ links_in c.loop-left.left,
      (were.3, were.4, ap (λ left. were.3 ++ left) (sym c.into_vec.ensures)),
      (were.0, refl, were.5),
    )
