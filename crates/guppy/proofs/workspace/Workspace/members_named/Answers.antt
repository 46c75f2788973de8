use Rattle.std.proofs.Common.{◌<◌, sym, subst, map, length}
use Rattle.guppy_graph.specs.Ids.{ix_position}
use Rattle.guppy_graph.proofs.Lists.{All-from_AllZip_right, AllZip-through}
use Rattle.guppy.proofs.workspace.Workspace.members_named.Goals as goal

pub members_at-requires : goal.members_at-requires
members_at-requires g c =
    let packages = c.args.self.graph.now.packages in
    rw c.as_slice.ensures.value (All-from_AllZip_right ix_position (g.N.NamesPackage.at packages) (λ ix. ix_position ix < length packages) (λ text ix has. g.met.N.NamesPackage.within packages text (ix_position ix) has) _ _ c.in_ok-ixs.ensures.found.2)

pub returns-clause-found : goal.returns-clause-found
returns-clause-found g c =
    let At = g.N.NamesPackage.at c.args.self.graph.now.packages in
    let found = c.in_ok-ixs.ensures.found in (
      found.0,
      found.1,
      AllZip-through ix_position At _ _ (λ text ix m has is. (is.0, subst (At text) (sym is.1) has)) (map g.N.NamesPackage.text found.0) c.in_ok-ixs.ixs.items _ found.2 (rw c.as_slice.ensures.value at c.in_ok-members_at.ensures),
    )
