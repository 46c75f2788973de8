use Rattle.std.proofs.Common.{subst}
use Rattle.guppy_metadata.specs.Fault.{NoneIs}
use Rattle.guppy_metadata.specs.Package.{IsParsedPackage}
use Rattle.guppy_metadata.proofs.package.package_at.Goals as goal

pub returns-in-Ok-clause-added : goal.returns-in-Ok-clause-added
returns-in-Ok-clause-added c =
    let added = c.in-Ok.ensures.added in (added.0, added.1, subst (λ d. IsParsedPackage c.args.details d added.0) c.in_ok-json.ensures added.2)

pub returns-in-Err-clause-refused : goal.returns-in-Err-clause-refused
returns-in-Err-clause-refused c other =
    let none = subst (λ d. NoneIs (IsParsedPackage c.args.details d) c.in-Err.fault) c.in_ok-json.ensures c.in-Err.ensures.refused in
    none (λ lacks. other (c.within_item.ensures lacks))
