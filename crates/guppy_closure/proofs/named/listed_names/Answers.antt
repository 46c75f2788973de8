use Rattle.std.proofs.Common.{◌≡◌, ◌+◌, ◌++◌, ◌∷◌, [], ◌∙◌, ap, sym, take, flat_map, arith, append-nil, subst}
use Rattle.std.proofs.lemmas.List.{take_more, take_all}
use Rattle.std.proofs.lemmas.Grind.{flat_map-append}
use Rattle.guppy_closure.specs.Named.{facts_of, HasNames}
use Rattle.guppy_closure.proofs.Listing.{names_more}
use Rattle.guppy_closure.proofs.named.listed_names.Goals as goal

pub clauses-preserved : goal.clauses-preserved
clauses-preserved g c =
    let s = c.clauses.invariant in
    let cs = c.args.clauses.now in
    let k = c.clauses.clause-index in
    let d = c.clause-item.result in
    let next : take (k + 1) cs ≡ take k cs ++ d ∷ [] = take_more cs k d c.clauses-test.true ∙ ap (λ x. take k cs ++ x ∷ []) (sym c.clause-item.is) in
    let facts : flat_map facts_of (take (k + 1) cs) ≡ flat_map facts_of (take k cs) ++ facts_of d = ap (flat_map facts_of) next ∙ (flat_map-append facts_of (take k cs) (d ∷ []) ∙ ap (λ fs. flat_map facts_of (take k cs) ++ fs) (append-nil (facts_of d))) in
    record {
      names = names_more (take k cs) (take (k + 1) cs) d c.clauses.names.items c.add_names.new.names.items facts s.names c.in_ok-add_names.ensures.kept c.in_ok-add_names.ensures.named;
      used = let few = c.in_ok-add_names.ensures.few in let used = s.used in omega arith;
    }

pub returns-clause-named : goal.returns-clause-named
returns-clause-named g c =
    let all = take_all c.clauses.clause-index c.args.clauses.now c.clauses-test.false in
    subst (λ cs. HasNames cs c.clauses.names.items) all c.clauses.invariant.names
