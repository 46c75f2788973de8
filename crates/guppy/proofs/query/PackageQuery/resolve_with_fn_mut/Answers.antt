use Rattle.std.proofs.Common.{◌≡◌, ◌∙◌, refl, ap, rules}
use Rattle.guppy.proofs.ShownLinks.{FoldsTo-along_kept, IsCallable-along_kept, ends_at}
use Rattle.guppy.proofs.query.PackageQuery.resolve_with_fn_mut.Goals as goal

pub resolve_by_number-requires : goal.resolve_by_number-requires
resolve_by_number-requires g c = record {
  ready = IsCallable-along_kept (λ a. a.ask.now) (λ a. a.context.now ≡ c.args.self) _ _ _ _ _ _ _
      (λ a n i below h. rw i (below, h)) (λ a e b i k. (rw i at k.0, ap (λ z. z.now) k.1 ∙ i)) _ refl c.requires.callable;
}

pub returns-clause-judged : goal.returns-clause-judged
returns-clause-judged g c =
    let s = c.in_ok-set.ensures.judged in
    let states = FoldsTo-along_kept (λ a. a.ask.now) (λ a. a.context.now ≡ c.args.self) _ _
    (λ a e b i k. (rw i at k.0, ap (λ z. z.now) k.1 ∙ i)) s.0 _ _ refl s.2 in
    (s.0, s.1, ends_at _ _ s.0 c.resolve_by_number.new.visitor.ask.now _ states (search rules))
