use Rattle.std.proofs.Common.{◌≡◌, ◌+◌, ◌++◌, ◌∷◌, [], ◌∙◌, ap, sym, refl, take, subst, arith}
use Rattle.std.proofs.lemmas.List.{take_more, take_all}
use Rattle.std.proofs.lemmas.Option.{slice_get_read}
use Rattle.guppy_closure.specs.Named.{StandsAt, AreSame}
use Rattle.guppy_closure.proofs.Places.{clause_named}
use Rattle.guppy_closure.proofs.Renamed.{same_push}
use Rattle.guppy_closure.proofs.named.numbered.Goals as goal

pub by_places-requires-clause-named : goal.by_places-requires-clause-named
by_places-requires-clause-named g c = λ f h.
    let cs = c.args.clauses.now in
    let k = c.clauses.clause-index in
    let d = c.clause-item.result in
    c.requires.named f (clause_named cs k d (slice_get_read cs _ k d refl c.clauses-test.true c.clause-item.is) f h)

pub clauses-preserved : goal.clauses-preserved
clauses-preserved g c =
    let s = c.clauses.invariant in
    let cs = c.args.clauses.now in
    let k = c.clauses.clause-index in
    let d = c.clause-item.result in
    let next : take (k + 1) cs ≡ take k cs ++ d ∷ [] = take_more cs k d c.clauses-test.true ∙ ap (λ x. take k cs ++ x ∷ []) (sym c.clause-item.is) in
    record {
      same = rw (next, c.push_reserved.ensures.items) (same_push (StandsAt c.args.names.now) (take k cs) c.clauses.numbered.items d c.by_places.result s.same c.by_places.ensures);
      used = let more = c.push_reserved.ensures.len in let used = s.used in omega arith;
      room = rw c.push_reserved.ensures.capacity s.room;
    }

pub returns : goal.returns
returns g c =
    let cs = c.args.clauses.now in
    let all = take_all c.clauses.clause-index cs c.clauses-test.false in
    subst (λ ds. AreSame (StandsAt c.args.names.now) ds c.clauses.numbered.items) all c.clauses.invariant.same
