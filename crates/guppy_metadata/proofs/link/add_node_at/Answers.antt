use Rattle.std.proofs.Common.{subst}
use Rattle.guppy_metadata.specs.Fault.{NoneIs}
use Rattle.guppy_metadata.specs.Links.{AreLinksOf}
use Rattle.guppy_metadata.proofs.link.add_node_at.Goals as goal

pub returns-in-Err-clause-refused : goal.returns-in-Err-clause-refused
returns-in-Err-clause-refused c other =
    let none = subst (λ d. NoneIs (AreLinksOf c.args.packages.packages.now d) c.in-Err.fault) c.in_ok-node.ensures c.in-Err.ensures.refused in
    none (λ lacks. other (c.within_item.ensures lacks))
