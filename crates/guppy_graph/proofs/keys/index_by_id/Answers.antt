use Rattle.std.proofs.Common.{ℕ, length, Option}
use Rattle.std.specs.Ordering.{nat_cmp}
use Rattle.std.specs.Cmp.Lexicographic.{slice_cmp}
use Rattle.std.specs.declared.vec.Vec.{Vec}
use Rattle.std.specs.declared.alloc.Global.{Global}
use Rattle.std.proofs.lemmas.Result.{IfOk-weaker}
use Rattle.guppy_graph.specs.Keys.{HasKey}
use Rattle.guppy_graph.specs.Ids.{id_at, HasId}
use Rattle.guppy_graph.proofs.Lists.{MatchOption-along}
use Rattle.guppy_graph.proofs.KeyIndexes.{DifferBelow-along, IsFirstRepeat-along}
use Rattle.guppy_graph.proofs.PackageIds.{id_there, id_back}
use Rattle.guppy_graph.proofs.keys.index_by_id.Goals as goal

pub returns-clause-repeat : goal.returns-clause-repeat
returns-clause-repeat c =
    let packages = c.args.ids.now.packages.now in
    let Has = HasKey (slice_cmp nat_cmp) (id_at packages) in
    IfOk-weaker {X = Vec ℕ Global × Option ℕ} _ _ _ (λ made. MatchOption-along made.1 _ _ _ _
    (DifferBelow-along Has (HasId packages) (id_there packages) (id_back packages) (length packages))
    (IsFirstRepeat-along Has (HasId packages) (id_there packages) (id_back packages))) c.index_from.ensures.repeat
