use Rattle.std.proofs.Common.{◌≡◌, ℕ, List, ◌∷◌, ◌++◌, length, refl, sym, ap, inl, ◌∙◌, length-append, arith}
use Rattle.guppy_search.specs.IxSet.{positions_in}
use Rattle.guppy_search.proofs.Exits.{if_ok, on_err}
use Rattle.guppy_search.proofs.Members.{member_count-le-length}
use Rattle.guppy_search.proofs.Positions.{length-positions_from}
use Rattle.guppy_search.proofs.dfs.buffered.reachable_buffered_mut.Goals as goal

pub returns-in_err-set : goal.returns-in_err-set
returns-in_err-set g c =
    let failed = c.from_residual.ensures.0 in
    record { count = if_ok _ _ failed; judged = if_ok _ _ failed; refused = on_err _ (inl refl); same_place = refl }

pub returns-in_err-waiting : goal.returns-in_err-waiting
returns-in_err-waiting g c =
    let failed = c.from_residual-in_err-waiting.ensures.0 in
    record { count = if_ok _ _ failed; judged = if_ok _ _ failed; refused = on_err _ (inl refl); same_place = refl }

pub push_reserved-requires : goal.push_reserved-requires
push_reserved-requires g c =
    let s = c.loop-ix.invariant in
    let room = s.room in
    let e : c.loop-ix.ix-iterator ≡ c.index.result ∷ c.next.new.self = c.in-Some.ensures.steps ∙ ap (λ n. n ∷ c.next.new.self) (sym c.index.ensures.position) in
    let listed : length (c.loop-ix.waiting.items ++ c.index.result ∷ c.next.new.self) ≡ length (positions_in c.args.initials.now) = ap (λ (ps : List ℕ). length ps) (rw e at s.listed) in
    let longer = simp length-append at listed in
    let few = member_count-le-length c.args.initials.now in
    omega (arith, c.loop-ix.waiting.ok.0, c.requires.count, length-positions_from 0 c.args.initials.now)
