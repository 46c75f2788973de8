use Rattle.std.proofs.Common.{◌≡◌, length, sym, ◌∙◌, ap, Some, arith}
use Rattle.std.specs.Prelude.{map}
use Rattle.guppy_core.proofs.Parts.{length-parts}
use Rattle.guppy_core.proofs.scc.iter.AllSccsIterator.size_hint.Goals as goal

pub returns-clause-lower : goal.returns-clause-lower
returns-clause-lower g c =
    let len : c.saturating_sub-len.result ≡ length c.args.self.now = c.saturating_sub-len.ensures ∙ (sym (length-parts (map g.Ix.IndexType.index_of c.self.inside.positions.now) c.self.inside.bounds.now) ∙ ap length c.self.view_is) in
    λ _. omega arith

pub returns-clause-upper : goal.returns-clause-upper
returns-clause-upper g c =
    let len : c.saturating_sub-len.result ≡ length c.args.self.now = c.saturating_sub-len.ensures ∙ (sym (length-parts (map g.Ix.IndexType.index_of c.self.inside.positions.now) c.self.inside.bounds.now) ∙ ap length c.self.view_is) in
    (tt, omega arith)

pub returns-clause-exact : goal.returns-clause-exact
returns-clause-exact g c =
    let len : c.saturating_sub-len.result ≡ length c.args.self.now = c.saturating_sub-len.ensures ∙ (sym (length-parts (map g.Ix.IndexType.index_of c.self.inside.positions.now) c.self.inside.bounds.now) ∙ ap length c.self.view_is) in
    ap (λ n. (n, Some n)) len
