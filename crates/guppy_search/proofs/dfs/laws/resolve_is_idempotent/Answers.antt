use Rattle.guppy_search.specs.Reach.{here}
use Rattle.guppy_search.proofs.Walks.{walk_on}
use Rattle.guppy_search.proofs.dfs.laws.resolve_is_idempotent.Goals as goal

pub returns : goal.returns
returns g c = λ d links initials set again first second. (
  λ p h.
      let later = (second p).0 h in
      let earlier = (first later.0).0 later.1 in
      (first p).1 (earlier.0, earlier.1, walk_on earlier.2 later.2),
  λ p h. (second p).1 (p, h, here),
)
