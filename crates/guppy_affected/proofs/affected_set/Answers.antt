use Rattle.std.proofs.Common.{◌≡◌, ◌∙◌, map, string_bytes, sym, ap, length}
use Rattle.guppy_graph.specs.Graph.{GraphData}
use Rattle.guppy_graph.specs.Ids.{ids_of}
use Rattle.guppy.specs.Query.{IsSetWhere, SetData}
use Rattle.guppy_affected.specs.Affected.{IsAffectedAfter}
use Rattle.guppy_affected.specs.Folders.{given_in}
use Rattle.guppy_affected.proofs.IdSets.{told}
use Rattle.guppy_affected.proofs.Iterators.{IfOk-along, IfOk-along_both}
use Rattle.guppy_affected.proofs.Members.{affected_members}
use Rattle.guppy_affected.proofs.affected_set.Goals as goal

pub intersection-requires : goal.intersection-requires
intersection-requires c =
    record { same_packages = ap (λ (g : GraphData). ids_of g.packages) (c.in_ok-tested.ensures.graph ∙ sym c.in_ok-members.ensures.graph) }

pub returns-clause-graph : goal.returns-clause-graph
returns-clause-graph c =
    IfOk-along c.intersection.result _ (λ (set : SetData). set.graph ≡ c.args.graph.now)
    (λ set same. same ∙ c.in_ok-tested.ensures.graph) c.intersection.ensures.graph

pub returns-clause-members : goal.returns-clause-members
returns-clause-members c =
    let changed = told c.args.changed.now in
    let paths = map string_bytes c.args.paths.now in
    let ignored = map string_bytes c.args.ignored.now in
    let also = given_in c.args.also.now in
    let of_changed = c.in_ok-tested.ensures.tested in
    IfOk-along_both c.intersection.result _ _ (λ (set : SetData). IsSetWhere c.args.graph.now.packages (IsAffectedAfter c.args.graph.now changed paths ignored also) set.included)
    (λ set count both. affected_members c.args.graph.now changed paths ignored also of_changed.0 of_changed.1 c.in_ok-tested.tested c.in_ok-members.members.included set.included
    of_changed.2 of_changed.3 of_changed.4 of_changed.5 c.in_ok-members.ensures.members
    (count ∙ ap (λ (g : GraphData). length g.packages) c.in_ok-tested.ensures.graph) both)
    c.intersection.ensures.count c.intersection.ensures.members
