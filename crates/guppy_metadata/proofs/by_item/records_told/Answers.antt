use Rattle.std.proofs.Common.{◌∙◌, List, IfSome, ap, subst}
use Rattle.json.specs.Find.{get}
use Rattle.json.proofs.Trees.{view-Object}
use Rattle.guppy_data.specs.declared.records.LinkRecord.{LinkRecord}
use Rattle.guppy_metadata.specs.Links.{AreLinksWith}
use Rattle.guppy_metadata.specs.Sink.{AreRead}
use Rattle.guppy_metadata.specs.Told.{AreShownPackages}
use Rattle.guppy_metadata.proofs.Turns.{if_ok}
use Rattle.guppy_metadata.proofs.by_item.records_told.Goals as goal

pub returns : goal.returns
returns g c =
    if_ok _ _ _ c.records_with.result c.ok.result c.ok.ensures.value
    (λ made is details d tells.
    let read = subst (λ o. IfSome o (λ read. (links : List LinkRecord) × AreRead g.S.LinkSink.took read links × AreLinksWith details d links)) c.in_ok-links.was tells.links_are in
    let made = is details d (λ name other. ap (get name) (view-Object c.args.told.others) ∙ tells.others_are name other)
    (subst (λ o. IfSome o (λ shown. AreShownPackages g.P.PackageSink.took details d shown)) c.in_ok-packages.was tells.packages_are) read.0 read.1 read.2 in
    record { packages = made.1; links = read.0; packages_are = made.2; links_are = made.0; said = made.3 }) c.records_with.ensures
