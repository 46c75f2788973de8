use Rattle.std.proofs.Common.{length, sym, ◌∙◌, ap}
use Rattle.std.specs.Prelude.{map}
use Rattle.guppy_core.proofs.Parts.{length-parts}
use Rattle.guppy_core.proofs.scc.iter.AllSccsExactSizeIterator.len.Goals as goal

pub returns-clause-value : goal.returns-clause-value
returns-clause-value g c = c.saturating_sub.ensures ∙ (sym (length-parts (map g.Ix.IndexType.index_of c.self.inside.positions.now) c.self.inside.bounds.now) ∙ ap length c.self.view_is)
