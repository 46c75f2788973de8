use Rattle.std.proofs.Common.{sym, subst}
use Rattle.json.specs.Json.{document}
use Rattle.guppy_metadata.specs.Records.{AreRecordsWith}
use Rattle.guppy_metadata.proofs.Options.{some_and}
use Rattle.guppy_metadata.proofs.whole.read_from.Goals as goal

pub returns-in-Ok-clause-records : goal.returns-in-Ok-clause-records
returns-in-Ok-clause-records g c =
    let records = c.in-Ok.records in
    let left = c.in_ok-left-in-Ok.ensures in
    some_and (document c.args.json.now) (λ d said. record {
      packages = records.packages.items;
      links = records.links.items;
      packages_are = left.packages;
      links_are = left.links;
      said = subst (AreRecordsWith c.args.details d records.packages.items records.links.items) (sym left.workspace) said;
    }) c.in-Ok.ensures.records
