use Rattle.std.proofs.Common.{◌≡◌, [], ◌∷◌, ◌++◌}
use Rattle.std.proofs.lemmas.Result.{IfErr-weaker, IfOk-weaker}
use Rattle.guppy_data.specs.declared.records.LinkRecord.{LinkRecord}
use Rattle.guppy_metadata.specs.Buffer.{links_in}
use Rattle.guppy_metadata.specs.Fault.{NoneIs}
use Rattle.guppy_metadata.specs.Links.{IsLink}
use Rattle.guppy_metadata.specs.Members.{data_of}
use Rattle.guppy_metadata.proofs.link.add_link.Goals as goal

pub returns-clause-added : goal.returns-clause-added
returns-clause-added c =
    IfOk-weaker _ _ (λ _. (link : LinkRecord) × (links_in c.add_resolved.new.links ≡ links_in c.args.links.now ++ link ∷ []) × IsLink c.args.packages.packages.now c.args.from.now (data_of c.args.dependency) link)
    (λ _ added. (added.0, added.1, added.2 (data_of c.args.dependency) c.in_ok-resolved.ensures)) c.add_resolved.ensures.added

pub returns-clause-refused : goal.returns-clause-refused
returns-clause-refused c =
    IfErr-weaker _ _ (NoneIs (IsLink c.args.packages.packages.now c.args.from.now (data_of c.args.dependency)))
    (λ _ none other link holds. none other link (data_of c.args.dependency, c.in_ok-resolved.ensures, holds)) c.add_resolved.ensures.refused
