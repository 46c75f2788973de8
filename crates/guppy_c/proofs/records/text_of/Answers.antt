use Rattle.std.proofs.Common.{IsSomeAnd, sym, subst}
use Rattle.json.specs.Json.{document}
use Rattle.guppy_metadata.proofs.Options.{some_told}
use Rattle.guppy_metadata.specs.Records.{AreRecordsWith}
use Rattle.guppy_c.proofs.records.text_of.Goals as goal

pub returns-in-Ok-clause-told : goal.returns-in-Ok-clause-told
returns-in-Ok-clause-told c =
    let records = c.in_ok-records.records in
    let read = some_told (document c.args.json.now) c.in_ok-records.ensures.said in
    let are = read.2 in record {
      packages = are.packages;
      links = are.links;
      workspace = records.workspace;
      said = subst (λ o. IsSomeAnd o (λ d. AreRecordsWith c.args.details d are.packages are.links records.workspace)) (sym read.1) are.said;
      told = c.in-Ok.ensures are.packages are.links are.packages_are are.links_are;
    }
