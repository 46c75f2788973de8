use Rattle.guppy_search.proofs.Walks.{walk_on}
use Rattle.guppy_search.proofs.dfs.laws.reach_is_transitive.Goals as goal

pub returns : goal.returns
returns g c = λ d keep links a b c v w. walk_on v w
