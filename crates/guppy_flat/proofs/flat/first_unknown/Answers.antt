use Rattle.std.proofs.Common.{◌≡◌, ◌∙◌, ℕ, false, sym}
use Rattle.std.proofs.Math.Dec.{leb}
use Rattle.std.proofs.lemmas.Bool.{or_parts, leb-false}
use Rattle.std.proofs.lemmas.List.Elements.{All-more}
use Rattle.guppy_search.specs.Links.{is_unknown}
use Rattle.guppy_flat.specs.declared.flat.Ends.{Ends}
use Rattle.guppy_flat.specs.Flat.{link_of, AreKnown}
use Rattle.guppy_flat.proofs.flat.first_unknown.Goals as goal

-- a link with no unknown end
ends_known : (n : ℕ) (e : Ends) → is_unknown n (link_of e) ≡ false → AreKnown n e
ends_known n e h = let both = or_parts (leb n e.from) (leb n e.to) h in (leb-false n e.from both.0, leb-false n e.to both.1)

pub loop-number-preserved : goal.loop-number-preserved
loop-number-preserved c =
    let fine = sym c.has_unknown_end.ensures ∙ c.if-has_unknown_end.false in
    All-more (AreKnown c.args.count) c.args.links.now c.loop-number.number _ c.loop-number-test.true c.loop-number.invariant (ends_known c.args.count _ fine)
