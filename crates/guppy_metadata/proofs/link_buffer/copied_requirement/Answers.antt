use Rattle.std.proofs.Common.{refl}
use Rattle.semver.specs.Identifiers.{comparator_view}
use Rattle.guppy_metadata.proofs.Requirements.{seen_alike, same_number, same_text}
use Rattle.guppy_metadata.proofs.link_buffer.copied_requirement.Goals as goal

pub returns : goal.returns
returns c = seen_alike comparator_view (λ x y same. rw (same.0, same.1.0, same_number x.minor y.minor same.1.1.0, same_number x.patch y.patch same.1.1.1.0, same_text x.pre.identifier y.pre.identifier same.1.1.1.1) refl) _ _ c.in_ok-clone.ensures.cases.0
