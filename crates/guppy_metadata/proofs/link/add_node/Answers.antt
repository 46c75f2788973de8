use Rattle.std.proofs.Common.{List, subst, codes}
use Rattle.std.proofs.lemmas.Result.{IfErr-weaker}
use Rattle.guppy_data.specs.declared.records.LinkRecord.{LinkRecord}
use Rattle.guppy_metadata.specs.Fault.{NoneIs}
use Rattle.guppy_metadata.specs.Links.{AreLinksFrom, AreLinksOf}
use Rattle.guppy_metadata.specs.Members.{data_of}
use Rattle.guppy_metadata.proofs.OnceTold.{text_once}
use Rattle.guppy_metadata.proofs.Refused.{part}
use Rattle.guppy_metadata.proofs.link.add_node.Goals as goal

pub returns-clause-refused : goal.returns-clause-refused
returns-clause-refused c =
    let packages = c.args.packages.packages.now in
    let d = data_of c.args.node in
    let from = c.in_ok-from.from.now in
    let row_of : (row : List LinkRecord) → AreLinksOf packages d row → (links : List LinkRecord) × AreLinksFrom packages from d links =
    λ row are. (row, subst (λ id. AreLinksFrom packages id d row) (text_once d (codes "id") are.id from are.id_is c.in_ok-from.ensures) are.links_are)
    in IfErr-weaker c.add_links.result (NoneIs (AreLinksFrom packages from d)) (NoneIs (AreLinksOf packages d))
    (λ e. part (AreLinksOf packages d) (AreLinksFrom packages from d) e e (λ lacks. lacks) row_of) c.add_links.ensures.refused
