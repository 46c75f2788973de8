use Rattle.std.proofs.Common.{◌≡◌, [], ◌∷◌, ◌++◌, refl}
use Rattle.std.proofs.lemmas.Result.{IfErr-weaker, IfOk-weaker}
use Rattle.guppy_metadata.specs.Fault.{NoneIs}
use Rattle.guppy_metadata.specs.Members.{data_of}
use Rattle.guppy_metadata.specs.Package.{AreAskedTargets, HasDetails, HasPlainFields, IsParsedPackage}
use Rattle.guppy_metadata.specs.declared.types.Package.{Package}
use Rattle.guppy_metadata.proofs.Refused.{refused, part}
use Rattle.guppy_metadata.proofs.package.package_of.Goals as goal

pub returns-in_err-id-clause-refused : goal.returns-in_err-id-clause-refused
returns-in_err-id-clause-refused c = refused _ _ _ c.from_residual.ensures (λ made holds. (_, holds.id)) c.in_err-id.ensures

pub returns-in_err-source-clause-refused : goal.returns-in_err-source-clause-refused
returns-in_err-source-clause-refused c = refused _ _ _ c.from_residual-in_err-source.ensures (λ made holds. (_, holds.source)) c.in_err-source.ensures

pub returns-in_err-declared-clause-refused : goal.returns-in_err-declared-clause-refused
returns-in_err-declared-clause-refused c = refused _ _ _ c.from_residual-in_err-declared.ensures (λ made holds. (_, holds.declared)) c.in_err-declared.ensures

pub returns-in_err-library-clause-refused : goal.returns-in_err-library-clause-refused
returns-in_err-library-clause-refused c = refused _ _ _ c.from_residual-in_err-library.ensures (λ made holds. (_, holds.library)) c.in_err-library.ensures

pub returns-clause-added : goal.returns-clause-added
returns-clause-added c =
    let d = data_of c.args.json in
    IfOk-weaker c.add_package.result _ (λ _. (p : Package) × (c.add_package.new.packages.items ≡ c.args.packages.now.items ++ p ∷ []) × IsParsedPackage c.args.details d p)
    (λ _ added. (added.0, added.1, added.2 d (λ name own. refl) c.in_ok-id.ensures c.in_ok-source.ensures c.in_ok-library.ensures c.in_ok-declared.ensures)) c.add_package.ensures.added

pub returns-clause-refused : goal.returns-clause-refused
returns-clause-refused c =
    let d = data_of c.args.json in
    let details = c.args.details in
    IfErr-weaker c.add_package.result _ (NoneIs (IsParsedPackage details d))
    (λ e. part (IsParsedPackage details d) (λ r. HasPlainFields d r × AreAskedTargets details d r.build_targets.items × HasDetails details d r) e e (λ lacks. lacks) (λ made holds. (made.record, (holds.named, holds.targets, holds.detailed)))) c.add_package.ensures.refused
