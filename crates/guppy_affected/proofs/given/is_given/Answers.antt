use Rattle.std.proofs.Common.{◌≡◌, ◌∙◌, rules, ap, Bool, List, Bor}
use Rattle.std.specs.Prelude.{◌↔◌, IsTrue}
use Rattle.guppy_data.specs.Path.{Part}
use Rattle.guppy_graph.specs.Graph.{GraphData}
use Rattle.guppy.specs.Views.{graph_of, package_position}
use Rattle.guppy_folders.specs.Folders.{lists_in}
use Rattle.guppy_folders.specs.Places.{MeetsOne}
use Rattle.guppy_affected.specs.Folders.{IsGivenTo}
use Rattle.guppy_affected.proofs.Iterators.{IfOk-along}
use Rattle.guppy_affected.proofs.Local.{id_at}
use Rattle.guppy_affected.proofs.given.is_given.Goals as goal

pub returns : goal.returns
returns c =
    let g = (graph_of c.args.metadata).now in
    let p = package_position c.args.metadata in
    let P = λ (folder : List Part). MeetsOne folder (lists_in c.args.places.now) in
    let own = c.id.result.now in
    let id = c.args.id.now in
    let same : own ≡ id = search rules in
    let rooted = c.root.ensures ∙ ap (λ (b : Bor GraphData). b.now.workspace.root) (c.workspace.ensures ∙ c.graph-graph.ensures) in
    IfOk-along c.meets_there.result _ (λ (is : Bool). IsTrue is ↔ IsGivenTo g P p (c.args.folder.now, id))
    (λ is meets. (
      λ h. ((id_at g.packages own id p c.id.ensures).1 same, (rw rooted at meets).0 h),
      λ given. (rw rooted at meets).1 given.1,
    )) c.meets_there.ensures
