use Rattle.std.proofs.Common.{IsSomeAnd, sym, subst}
use Rattle.guppy_metadata.specs.Sink.{AreReadRecords}
use Rattle.guppy_metadata.proofs.Options.{if_some}
use Rattle.guppy_metadata.proofs.by_item.records_by_item.Goals as goal

pub returns : goal.returns
returns g c =
    let details = c.args.details in
    let told = c.in_ok-told.ensures in
    if_some c.records_told.result
    (λ r made. subst (λ o. IsSomeAnd o (λ d. AreReadRecords g.P.PackageSink.took g.S.LinkSink.took details d r)) (sym told.1) (made details told.0 told.2)) c.records_told.ensures
