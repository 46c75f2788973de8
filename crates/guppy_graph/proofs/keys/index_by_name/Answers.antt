use Rattle.std.proofs.Common.{ℕ, length, Option}
use Rattle.std.specs.Ordering.{nat_cmp}
use Rattle.std.specs.Cmp.Lexicographic.{slice_cmp}
use Rattle.std.specs.declared.vec.Vec.{Vec}
use Rattle.std.specs.declared.alloc.Global.{Global}
use Rattle.std.proofs.lemmas.Result.{IfOk-weaker}
use Rattle.guppy_graph.specs.Keys.{HasKey}
use Rattle.guppy_graph.specs.Members.{name_at, HasName}
use Rattle.guppy_graph.proofs.Lists.{MatchOption-along}
use Rattle.guppy_graph.proofs.KeyIndexes.{DifferBelow-along, IsFirstRepeat-along, exact_there, exact_back}
use Rattle.guppy_graph.proofs.keys.index_by_name.Goals as goal

pub returns-clause-repeat : goal.returns-clause-repeat
returns-clause-repeat c =
    let packages = c.args.names.now.packages.now in
    let Has = HasKey (slice_cmp nat_cmp) (name_at packages) in
    IfOk-weaker {X = Vec ℕ Global × Option ℕ} _ _ _ (λ made. MatchOption-along made.1 _ _ _ _
    (DifferBelow-along Has (HasName packages) (exact_there (name_at packages)) (exact_back (name_at packages)) (length packages))
    (IsFirstRepeat-along Has (HasName packages) (exact_there (name_at packages)) (exact_back (name_at packages)))) c.index_from.ensures.repeat
