use Rattle.guppy_search.proofs.dfs.laws.resolve_is_monotone.Goals as goal

pub returns : goal.returns
returns g c = λ d links fewer more small large within from_fewer from_more p h.
    let walk = (from_fewer p).0 h in
    (from_more p).1 (walk.0, within walk.0 walk.1, walk.2)
