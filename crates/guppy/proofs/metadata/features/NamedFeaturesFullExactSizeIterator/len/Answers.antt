use Rattle.std.proofs.lemmas.List.{length-map}
use Rattle.std.proofs.lemmas.List.FromFn.{length-enumerate_from}
use Rattle.guppy.proofs.metadata.features.NamedFeaturesFullExactSizeIterator.len.Goals as goal

pub returns-clause-value : goal.returns-clause-value
returns-clause-value c = simp (length-map, length-enumerate_from) c.len.ensures.value
