use Rattle.std.proofs.Common.{◌∙◌, ap, Bool, List, Bor, map}
use Rattle.std.specs.Prelude.{◌↔◌, IsTrue}
use Rattle.guppy_data.specs.Component.{part_shown}
use Rattle.guppy_data.specs.Path.{Part}
use Rattle.guppy_data.specs.Utf8Path.{path_text}
use Rattle.guppy_graph.specs.Graph.{GraphData}
use Rattle.guppy.specs.TargetIterators.{targets_left}
use Rattle.guppy.specs.Views.{graph_of, package_position}
use Rattle.guppy_folders.specs.Folders.{lists_in}
use Rattle.guppy_folders.specs.Places.{MeetsOne}
use Rattle.guppy_affected.specs.Folders.{HasTargetElsewhere}
use Rattle.guppy_affected.proofs.Iterators.{IfOk-along}
use Rattle.guppy_affected.proofs.Targets.{elsewhere_found}
use Rattle.guppy_affected.proofs.elsewhere.has_target_elsewhere.Goals as goal

pub returns-in_ok-own-in-Some : goal.returns-in_ok-own-in-Some
returns-in_ok-own-in-Some c =
    let g = (graph_of c.args.metadata).now in
    let p = package_position c.args.metadata in
    let P = λ (folder : List Part). MeetsOne folder (lists_in c.args.places.now) in
    let rooted = c.root-root.ensures ∙ ap (λ (b : Bor GraphData). b.now.workspace.root) (c.workspace.ensures ∙ c.graph-graph.ensures) in
    let own = ap (map part_shown) c.as_slice.ensures.value ∙ c.in_ok-own-in-Some.ensures in
    IfOk-along c.has_one_elsewhere.result _ (λ (has : Bool). IsTrue has ↔ HasTargetElsewhere g P p)
    (λ has found. elsewhere_found g p P (path_text c.in-Some.folder) (targets_left c.build_targets.result) has c.in-Some.ensures c.build_targets.ensures (rw (own, rooted) at found)) c.has_one_elsewhere.ensures
