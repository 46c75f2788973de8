use Rattle.guppy_metadata.proofs.Refused.{refused}
use Rattle.guppy_metadata.proofs.target.build_target.Goals as goal

pub returns-in_err-name : goal.returns-in_err-name
returns-in_err-name c = refused _ _ _ c.from_residual.ensures (λ x holds. (_, holds.name_is)) c.in_err-name.ensures

pub returns-in_err-kind : goal.returns-in_err-kind
returns-in_err-kind c = refused _ _ _ c.from_residual-in_err-kind.ensures (λ x holds. ((holds.kind, holds.others), holds.kinds_are)) c.in_err-kind.ensures

pub returns-in_err-doc_by_default : goal.returns-in_err-doc_by_default
returns-in_err-doc_by_default c = refused _ _ _ c.from_residual-in_err-doc_by_default.ensures (λ x holds. (_, holds.documented)) c.in_err-doc_by_default.ensures

pub returns-in_err-doctest_by_default : goal.returns-in_err-doctest_by_default
returns-in_err-doctest_by_default c = refused _ _ _ c.from_residual-in_err-doctest_by_default.ensures (λ x holds. (_, holds.doctested)) c.in_err-doctest_by_default.ensures

pub returns-in_err-test_by_default : goal.returns-in_err-test_by_default
returns-in_err-test_by_default c = refused _ _ _ c.from_residual-in_err-test_by_default.ensures (λ x holds. (_, holds.tested)) c.in_err-test_by_default.ensures

pub returns-in_err-crate_types : goal.returns-in_err-crate_types
returns-in_err-crate_types c = refused _ _ _ c.from_residual-in_err-crate_types.ensures (λ x holds. (_, holds.crate_types_are)) c.in_err-crate_types.ensures

pub returns-in_err-required_features : goal.returns-in_err-required_features
returns-in_err-required_features c = refused _ _ _ c.from_residual-in_err-required_features.ensures (λ x holds. (_, holds.required_features)) c.in_err-required_features.ensures

pub returns-in_err-path : goal.returns-in_err-path
returns-in_err-path c = refused _ _ _ c.from_residual-in_err-path.ensures (λ x holds. (_, holds.path)) c.in_err-path.ensures

pub returns-in_err-edition : goal.returns-in_err-edition
returns-in_err-edition c = refused _ _ _ c.from_residual-in_err-edition.ensures (λ x holds. (_, holds.edition)) c.in_err-edition.ensures
