use Rattle.std.proofs.Common.{◌≡◌, ◌∙◌, ℕ, false, subst, sym}
use Rattle.std.proofs.Math.Dec.{leb}
use Rattle.std.proofs.lemmas.Bool.{or_parts, leb-false}
use Rattle.std.proofs.lemmas.List.Elements.{All-more}
use Rattle.guppy_search.specs.Links.{EndsBelow, is_unknown}
use Rattle.guppy_search.specs.declared.graph_core.link.Link.{Link}
use Rattle.guppy_search.proofs.graph_core.build.first_unknown.Goals as goal

-- a link with no unknown end
ends_known : {E : Type 0} (n : ℕ) (l : Link E) → is_unknown n l ≡ false → EndsBelow n l
ends_known n l h = let both = or_parts (leb n l.from) (leb n l.to) h in (leb-false n l.from both.0, leb-false n l.to both.1)

pub loop-number-preserved : goal.loop-number-preserved
loop-number-preserved g c =
    let x = c.index-links-number.result in
    let fine : is_unknown c.args.count x ≡ false = sym c.has_unknown_end.ensures ∙ c.if-has_unknown_end.false in
    All-more (EndsBelow c.args.count) c.args.links.now c.loop-number.number x c.loop-number-test.true c.loop-number.invariant (subst (λ (z : Link g.row.E.Denot). EndsBelow c.args.count z) c.index-links-number.is (ends_known c.args.count x fine))
