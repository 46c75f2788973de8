use Rattle.std.proofs.Common.{length}
use Rattle.std.specs.Ordering.{nat_cmp}
use Rattle.std.specs.Cmp.Lexicographic.{slice_cmp}
use Rattle.guppy_graph.specs.Keys.{HasKey}
use Rattle.guppy_graph.specs.Ids.{id_at, HasId}
use Rattle.guppy_graph.proofs.Lists.{MatchOption-along}
use Rattle.guppy_graph.proofs.KeyIndexes.{NoneBelow-along, IsFirstWith-along}
use Rattle.guppy_graph.proofs.PackageIds.{id_there, id_back}
use Rattle.guppy_graph.proofs.keys.position_of_id.Goals as goal

pub returns : goal.returns
returns c =
    let packages = c.args.ids.now.packages.now in
    let Has = HasKey (slice_cmp nat_cmp) (id_at packages) in
    MatchOption-along _ _ _ _ _
    (NoneBelow-along Has (HasId packages) (id_there packages) (id_back packages) c.args.id.now (length packages))
    (λ p. IsFirstWith-along Has (HasId packages) (id_there packages) (id_back packages) c.args.id.now p)
    (rw c.repr.ensures at c.position_of.ensures)
