use Rattle.guppy_search.specs.Reach.{here}
use Rattle.guppy_search.proofs.dfs.laws.reach_is_reflexive.Goals as goal

pub returns : goal.returns
returns g c = λ d keep links a. here
