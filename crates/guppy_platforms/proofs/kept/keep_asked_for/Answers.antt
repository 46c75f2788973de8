use Rattle.std.proofs.Common.{rules}
use Rattle.std.proofs.lemmas.Fn.{filter_same}
use Rattle.guppy_platforms.specs.Counting.{has_section}
use Rattle.guppy_platforms.proofs.kept.keep_asked_for.Goals as goal

pub returns : goal.returns
returns c = filter_same _ has_section _ (λ x b f' k. search rules) _ _ c.retain.ensures.filtered
