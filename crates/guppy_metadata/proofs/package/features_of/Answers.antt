use Rattle.json.specs.Value.{value_view}
use Rattle.guppy_metadata.specs.Feature.{AreFeatures}
use Rattle.guppy_metadata.specs.Members.{data_of}
use Rattle.guppy_metadata.specs.Package.{AreNamedFeatures}
use Rattle.guppy_metadata.proofs.Refused.{failed, part}
use Rattle.guppy_metadata.proofs.package.features_of.Goals as goal

pub returns-in_err-value : goal.returns-in_err-value
returns-in_err-value c = failed _ _ _ _ c.from_residual.ensures (λ e is other features holds. rw c.in_err-value.ensures at holds)

pub returns-in-Err : goal.returns-in-Err
returns-in-Err c =
    part (AreNamedFeatures (data_of c.args.json)) (AreFeatures (value_view c.in_ok-value.value.now)) _ _ c.within.ensures (λ features holds. (features, rw c.in_ok-value.ensures at holds)) c.in-Err.ensures
