use Rattle.std.proofs.Common.{◌&&◌, ◌==◌, ap, rules, tests}
use Rattle.std.proofs.lemmas.Iterator.{YieldsList-from_slice}
use Rattle.std.proofs.lemmas.Iterator.Consumers.{YieldsList-from_filter, count_from_yields_List}
use Rattle.guppy_metadata.specs.declared.types.Declared.{Declared}
use Rattle.guppy_metadata.specs.Fits.{suits, are_together}
use Rattle.guppy_metadata.proofs.fits.is_alone.Goals as goal

pub returns : goal.returns
returns c =
    let wanted = c.args.wanted.now in
    ap (λ n. n == 1) (count_from_yields_List c.filter-rivals.result _ c.count.ensures.ran
    (YieldsList-from_filter _ (λ (y : Declared). are_together y c.args.declared.now && suits wanted.asking.now wanted.resolved.now wanted.needed.now y)
    (YieldsList-from_slice wanted.asking.now.declared.items (cc)) c.filter-rivals.ensures.closure (λ x b q k. search (rules, tests))))
