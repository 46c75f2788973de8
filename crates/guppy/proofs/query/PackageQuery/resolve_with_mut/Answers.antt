use Rattle.std.proofs.Common.{◌≡◌, ◌∙◌, refl, ap, rules}
use Rattle.guppy.specs.Visitors.{VisitsAt}
use Rattle.guppy.proofs.ShownLinks.{FoldsTo-along_kept, IsCallable-others, ends_at}
use Rattle.guppy.proofs.query.PackageQuery.resolve_with_mut.Goals as goal

pub resolve_by_number-requires : goal.resolve_by_number-requires
resolve_by_number-requires g c = record {
  ready = IsCallable-others _ _ (λ a n b t k m other h. rw k.1 (h.0, k.2 m other h.1)) _ _ _ _ (λ n below. (below, c.requires.ready n below));
}

pub returns-clause-judged : goal.returns-clause-judged
returns-clause-judged g c =
    let s = c.in_ok-set.ensures.judged in
    let states = FoldsTo-along_kept (λ a. a.visitor.now) (λ a. a.context.now ≡ c.args.self) _ (λ v e w. VisitsAt g.V.PackageLinkVisitor.visits c.args.self v e.0 e.1 w)
    (λ a e b i k. (rw i at k.0, ap (λ z. z.now) k.1 ∙ i)) s.0 _ _ refl s.2 in
    (s.0, s.1, ends_at _ _ s.0 c.resolve_by_number.new.visitor.visitor.now _ states (search rules))
