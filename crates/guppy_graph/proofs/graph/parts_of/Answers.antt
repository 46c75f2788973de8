use Rattle.std.proofs.Common.{◌≤◌, length, All}
use Rattle.guppy_search.specs.Links.{links_between}
use Rattle.guppy_graph.specs.Accepted.{distinct_ids, ArePackagesAccepted}
use Rattle.guppy_graph.specs.Indexes.{AreIndexes}
use Rattle.guppy_graph.specs.Links.{AreEndsOf, AreEndsKnown}
use Rattle.guppy_graph.proofs.Ends.{links_made, all_known}
use Rattle.guppy_graph.proofs.Rules.{packages_kept, all_kept}
use Rattle.guppy_graph.proofs.AcceptedRecords.{refusal_of, pairs_distinct}
use Rattle.guppy_graph.proofs.graph.parts_of.Goals as goal

pub returns-in-Ok-clause-made : goal.returns-in-Ok-clause-made
returns-in-Ok-clause-made c =
    let packages = c.args.packages.items in
    let links = c.args.links.items in
    let workspace = c.args.workspace.now in
    let kept : ArePackagesAccepted packages workspace = rw c.as_slice.ensures.value at c.in_ok-indexes.ensures.accepted in
    let indexes : AreIndexes packages c.in_ok-indexes.indexes = rw c.as_slice.ensures.value at c.in_ok-indexes.ensures.indexes in
    let few : length links ≤ 4294967295 = rw c.as_slice-2.ensures.value at c.in_ok-indexes.ensures.few_links in
    let ends : AreEndsOf packages links c.in_ok-indexes.ends.items = rw (c.as_slice.ensures.value, c.as_slice-2.ensures.value) at c.in_ok-indexes.ensures.ends in
    let are = links_made packages links c.in_ok-indexes.ends.items ends in
    let known : All (AreEndsKnown packages) links = all_known packages links c.in_ok-indexes.ends.items ends.count ends.named in
    let made = c.in-Ok.ensures in
    record {
      nodes_are = made.nodes;
      links_are = rw made.links are;
      graph = made.graph;
      indexes = indexes;
      accepted = all_kept packages links workspace (packages_kept packages links workspace kept) few known
          (pairs_distinct packages links (links_between c.in_ok-indexes.ends.items links) are (kept distinct_ids) c.in-Ok.graph made.graph made.links);
    }

pub returns-in-Err-clause-refused : goal.returns-in-Err-clause-refused
returns-in-Err-clause-refused c =
    let packages = c.args.packages.items in
    let links = c.args.links.items in
    let workspace = c.args.workspace.now in
    let kept : ArePackagesAccepted packages workspace = rw c.as_slice.ensures.value at c.in_ok-indexes.ensures.accepted in
    let few : length links ≤ 4294967295 = rw c.as_slice-2.ensures.value at c.in_ok-indexes.ensures.few_links in
    let ends : AreEndsOf packages links c.in_ok-indexes.ends.items = rw (c.as_slice.ensures.value, c.as_slice-2.ensures.value) at c.in_ok-indexes.ensures.ends in
    let are = links_made packages links c.in_ok-indexes.ends.items ends in
    let known : All (AreEndsKnown packages) links = all_known packages links c.in_ok-indexes.ends.items ends.count ends.named in
    rw c.construct_error.ensures (refusal_of packages links (links_between c.in_ok-indexes.ends.items links) are (kept distinct_ids) workspace kept few known c.in-Err.fault c.in-Err.ensures.fault)
