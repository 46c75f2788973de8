use Rattle.std.proofs.Common.{◌≡◌, Ok, map, subst, codes}
use Rattle.semver.specs.Identifiers.{comparator_view}
use Rattle.semver.specs.Parse.{req_of}
use Rattle.guppy_metadata.specs.Members.{data_of}
use Rattle.guppy_metadata.proofs.OnceTold.{text_once}
use Rattle.guppy_metadata.proofs.Refused.{refused}
use Rattle.guppy_metadata.proofs.declared.declared_of.Goals as goal

pub returns-in_err-name : goal.returns-in_err-name
returns-in_err-name c = refused _ _ _ c.from_residual.ensures (λ x holds. (_, holds.name)) c.in_err-name.ensures

pub returns-in_err-rename : goal.returns-in_err-rename
returns-in_err-rename c = refused _ _ _ c.from_residual-in_err-rename.ensures (λ x holds. (_, holds.rename)) c.in_err-rename.ensures

pub returns-in_err-text : goal.returns-in_err-text
returns-in_err-text c = refused _ _ _ c.from_residual-in_err-text.ensures (λ x holds. (_, holds.requirement.1)) c.in_err-text.ensures

pub returns-in_err-section : goal.returns-in_err-section
returns-in_err-section c = refused _ _ _ c.from_residual-in_err-section.ensures (λ x holds. (_, holds.section)) c.in_err-section.ensures

pub returns-in_err-target : goal.returns-in_err-target
returns-in_err-target c = refused _ _ _ c.from_residual-in_err-target.ensures (λ x holds. (_, holds.target)) c.in_err-target.ensures

pub returns-in_err-optional : goal.returns-in_err-optional
returns-in_err-optional c = refused _ _ _ c.from_residual-in_err-optional.ensures (λ x holds. (_, holds.optional)) c.in_err-optional.ensures

pub returns-in_err-default_features : goal.returns-in_err-default_features
returns-in_err-default_features c = refused _ _ _ c.from_residual-in_err-default_features.ensures (λ x holds. (_, holds.default_features)) c.in_err-default_features.ensures

pub returns-in_err-registry : goal.returns-in_err-registry
returns-in_err-registry c = refused _ _ _ c.from_residual-in_err-registry.ensures (λ x holds. (_, holds.registry)) c.in_err-registry.ensures

pub returns-in_err-path : goal.returns-in_err-path
returns-in_err-path c = refused _ _ _ c.from_residual-in_err-path.ensures (λ x holds. (_, holds.path)) c.in_err-path.ensures

pub returns-in_err-features : goal.returns-in_err-features
returns-in_err-features c = refused _ _ _ c.from_residual-in_err-features.ensures (λ x holds. (_, holds.features)) c.in_err-features.ensures

pub returns-in_err-requirement : goal.returns-in_err-requirement
returns-in_err-requirement c =
    refused _ _ _ c.from_residual-in_err-requirement.ensures
    (λ x holds. (
      x.requirement,
      subst (λ text. req_of text ≡ Ok (map comparator_view x.requirement.comparators.items))
          (text_once (data_of c.args.dependency) (codes "req") holds.requirement.0 c.in_ok-text.text.now holds.requirement.1 c.in_ok-text.ensures) holds.requirement.2,
    ))
    c.in_err-requirement.ensures

pub returns : goal.returns
returns c = record {
  name = c.in_ok-name.ensures;
  rename = c.in_ok-rename.ensures;
  requirement = (c.in_ok-text.text.now, c.in_ok-text.ensures, c.in_ok-requirement.ensures);
  section = c.in_ok-section.ensures;
  target = c.in_ok-target.ensures;
  optional = c.in_ok-optional.ensures;
  default_features = c.in_ok-default_features.ensures;
  features = c.in_ok-features.ensures;
  registry = c.in_ok-registry.ensures;
  path = c.in_ok-path.ensures;
}
