use Rattle.std.proofs.Common.{◌≡◌, ◌∙◌, sym, ap, subst, All}
use Rattle.std.specs.Slice.Iter.{iter_rest}
use Rattle.guppy_graph.specs.Ids.{IsKnown}
use Rattle.guppy.proofs.workspace.Workspace.default_members.Goals as goal

pub invariant_of-result : goal.invariant_of-result
invariant_of-result c =
    let packages = c.args.self.graph.now.packages in
    let same : iter_rest c.iter.result ≡ c.args.self.graph.now.workspace.default_members.items =
    c.iter.ensures.rest ∙ (c.deref.ensures.value ∙ ap (λ w. w.default_members.items) c.workspace_record.ensures.record) in
    let known : All (IsKnown packages) (iter_rest c.iter.result) = subst (All (IsKnown packages)) (sym same) c.workspace_record.ensures.known in
    record { known = λ k d within unknown. unknown (known k d within) }
