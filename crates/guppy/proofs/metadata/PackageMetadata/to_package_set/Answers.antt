use Rattle.std.proofs.Common.{◌∙◌, sym, ap, subst, ◌<◌, [], ◌∷◌, length, arith, Some}
use Rattle.std.specs.List.{Contains}
use Rattle.std.proofs.lemmas.List.Elements.{All-cons, Contains-push}
use Rattle.std.proofs.lemmas.Iterator.Adapters.{YieldsList-from_once}
use Rattle.guppy_graph.specs.Ids.{ix_position}
use Rattle.guppy_graph.proofs.Lists.{only_one}
use Rattle.guppy_graph.proofs.Runs.{holds_along, drained}
use Rattle.guppy.proofs.metadata.PackageMetadata.to_package_set.Goals as goal

pub from_ixs-requires-clause-below : goal.from_ixs-requires-clause-below
from_ixs-requires-clause-below c =
    let packages = c.args.self.graph.now.packages in
    let below : ix_position c.package_ix.result < length packages = rw c.package_ix.ensures c.args.self.in_graph in
    rw c.dep_graph.ensures.nodes (holds_along _ (λ ix. ix_position ix < length packages) _ _
    (YieldsList-from_once (Some c.package_ix.result) c.once.ensures.item)
    (All-cons (λ ix. ix_position ix < length packages) c.package_ix.result [] below (λ k d h. absurd (omega arith))))

pub returns-clause-members : goal.returns-clause-members
returns-clause-members c =
    let members = c.in_ok-core.ensures.members in
    let one = drained _ _ _ _ (YieldsList-from_once (Some c.package_ix.result) c.once.ensures.item) members.1 in
    let there = rw one at members.2 in
    let at = c.package_ix.ensures in
    record {
      count_is = c.in_ok-core.ensures.count ∙ ap length c.dep_graph.ensures.nodes;
      members = λ p. (
        λ h. only_one p (ix_position c.package_ix.result) ((there p).0 h) ∙ at,
        λ same. (there p).1 (subst (λ q. Contains (ix_position c.package_ix.result ∷ []) q) (at ∙ sym same) (Contains-push [] (ix_position c.package_ix.result))),
      );
    }
