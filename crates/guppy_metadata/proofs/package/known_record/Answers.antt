use Rattle.std.proofs.Common.{◌≡◌, Ok, subst, codes}
use Rattle.semver.specs.Identifiers.{parts_of}
use Rattle.semver.specs.Parse.{version_parts}
use Rattle.guppy_metadata.specs.Members.{data_of}
use Rattle.guppy_metadata.proofs.OnceTold.{text_once}
use Rattle.guppy_metadata.proofs.Refused.{refused}
use Rattle.guppy_metadata.proofs.package.known_record.Goals as goal

pub returns-in_err-text-clause-known : goal.returns-in_err-text-clause-known
returns-in_err-text-clause-known c = refused _ _ _ c.from_residual.ensures (λ r holds. (_, holds.version.1)) c.in_err-text.ensures

pub returns-in_err-version-clause-known : goal.returns-in_err-version-clause-known
returns-in_err-version-clause-known c =
    refused _ _ _ c.from_residual-in_err-version.ensures
    (λ r holds. (
      r.version,
      subst (λ text. version_parts text ≡ Ok (parts_of r.version))
          (text_once (data_of c.args.json) (codes "version") holds.version.0 c.in_ok-text.field-0.now holds.version.1 c.in_ok-text.ensures) holds.version.2,
    ))
    c.in_err-version.ensures

pub returns-in_err-id-clause-known : goal.returns-in_err-id-clause-known
returns-in_err-id-clause-known c = refused _ _ _ c.from_residual-in_err-id.ensures (λ r holds. (_, holds.id)) c.in_err-id.ensures

pub returns-in_err-name-clause-known : goal.returns-in_err-name-clause-known
returns-in_err-name-clause-known c = refused _ _ _ c.from_residual-in_err-name.ensures (λ r holds. (_, holds.name)) c.in_err-name.ensures

pub returns-in_err-manifest_path-clause-known : goal.returns-in_err-manifest_path-clause-known
returns-in_err-manifest_path-clause-known c = refused _ _ _ c.from_residual-in_err-manifest_path.ensures (λ r holds. (_, holds.manifest_path)) c.in_err-manifest_path.ensures

pub returns-in_err-edition-clause-known : goal.returns-in_err-edition-clause-known
returns-in_err-edition-clause-known c = refused _ _ _ c.from_residual-in_err-edition.ensures (λ r holds. (_, holds.edition)) c.in_err-edition.ensures
