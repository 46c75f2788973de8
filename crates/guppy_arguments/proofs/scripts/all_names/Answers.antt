use Rattle.std.proofs.Common.{rules, ap, map}
use Rattle.std.proofs.lemmas.Iterator.{YieldsList-from_map, YieldsList-from_slice, items_from_collect}
use Rattle.std.proofs.lemmas.Iterator.Consumers.{YieldsList-at, YieldsList-from_chain, YieldsList-from_copied}
use Rattle.std.proofs.lemmas.Result.{IfOk-weaker}
use Rattle.guppy_arguments.proofs.scripts.all_names.Goals as goal

pub returns : goal.returns
returns c =
    IfOk-weaker c.collect.result _ _ (λ names is. ap (map (λ name. name.now)) is)
    (items_from_collect _ c.collect.ensures.ran (YieldsList-from_chain
    (YieldsList-at c.chain.ensures.first (YieldsList-from_map _ (λ row. row.0) (YieldsList-at c.map-own.ensures.source (YieldsList-from_slice _ c.iter.ensures.rest)) c.map-own.ensures.closure (λ x r q k. search rules)))
    (YieldsList-at c.chain.ensures.second (YieldsList-from_copied (YieldsList-at c.copied.ensures.source (YieldsList-from_slice _ c.iter-2.ensures.rest))))
    c.chain.ensures.first_done c.chain.ensures.second_done))
