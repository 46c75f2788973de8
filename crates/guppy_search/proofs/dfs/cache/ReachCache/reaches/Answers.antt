use Rattle.std.proofs.Common.{◌≡◌, ◌∙◌, sym, subst, ap, true, false, replicate, length}
use Rattle.std.proofs.Math.ListN.{set}
use Rattle.guppy_search.specs.IxSet.{IsIn}
use Rattle.guppy_search.specs.Reach.{LinkStep, Walk}
use Rattle.guppy_search.proofs.Members.{only_member, one_member}
use Rattle.guppy_search.proofs.Resolves.{accepting_reaches, accepts_all}
use Rattle.guppy_search.proofs.dfs.cache.ReachCache.reaches.Goals as goal

pub returns-clause-answer : goal.returns-clause-answer
returns-clause-answer g c =
    let s = c.search.ensures.judged in
    let n = length c.args.graph.now.nodes in
    let from = g.G.Ix.IndexType.index_of c.args.from in
    let to = g.G.Ix.IndexType.index_of c.args.to in
    let R = LinkStep c.args.direction c.args.graph.now.links in
    let reached = accepting_reaches _ _ _ s.0 _ s.1 (accepts_all _ (λ q n b t h. h) s.0 _ _ s.2) to in
    let size : length c.self.inside.initials ≡ n = c.self.invariant.0 ∙ (c.self.view_is ∙ c.requires.room) in
    let cleared : c.clear.new.self ≡ replicate n false = c.clear.ensures ∙ ap (λ k. replicate k false) size in
    let initials : c.insert_position.new.self ≡ set (replicate n false) from true =
    c.insert_position.ensures.after ∙ (ap (λ l. set l c.index.result true) cleared ∙ ap (λ p. set (replicate n false) p true) c.index.ensures.position) in
    rw c.contains.ensures (
      λ h. let r = reached.0 h in subst (λ p. Walk R p to) (sym (only_member n from r.0 (subst (λ l. IsIn l r.0) initials r.1))) r.2,
      λ walk. reached.1 (from, subst (λ l. IsIn l from) (sym initials) (one_member n from c.requires.from), walk),
    )
