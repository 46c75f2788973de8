use Rattle.std.proofs.Common.{◌≡◌, ◌<◌, ◌++◌, ◌∷◌, [], length, map, ap, ◌∙◌, ℕ, arith}
use Rattle.std.proofs.lemmas.List.{map_push}
use Rattle.guppy_search.proofs.Exits.{if_ok}
use Rattle.guppy_core.proofs.Roots.{unmarked_none, unmarked_more, unmarked_skipped, unmarked_all}
use Rattle.guppy_core.proofs.scc.externals.unentered.Goals.{then-is_unentered+in_ok-push, else-is_unentered}
use Rattle.guppy_core.proofs.scc.externals.unentered.Goals as goal

pub loop-position-init : goal.loop-position-init
loop-position-init g c = rw c.new-list.ensures.items (unmarked_none c.args.set.now c.args.numbers.now c.args.entered.now)

pub loop-position-preserved : goal.loop-position-preserved
loop-position-preserved g c =
    let members = c.args.set.now in
    let numbers = c.args.numbers.now in
    let table = c.args.entered.now in
    let i = c.loop-position.position in
    let index_of = g.G.Ix.IndexType.index_of in
    let list = map index_of c.loop-position.list.items in
    let within : c.loop-position.position < length c.args.set.now = let test = c.loop-position-test.true in let count = c.node_count-position-end.ensures in omega arith in
    elim c.if-is_unentered.branch [
      | then-is_unentered+in_ok-push w ↦
          let items : map g.G.Ix.IndexType.index_of (c.loop-position.list.items ++ w.new.result ∷ []) ≡ map g.G.Ix.IndexType.index_of c.loop-position.list.items ++ c.loop-position.position ∷ [] = map_push g.G.Ix.IndexType.index_of c.loop-position.list.items w.new.result ∙ ap (λ (n : ℕ). map g.G.Ix.IndexType.index_of c.loop-position.list.items ++ n ∷ []) w.new.ensures in
          let is = c.is_unentered.ensures.answer.0 w.if-is_unentered.true in
          rw (w.list-is, w.in_ok-push.ensures.items, items) (unmarked_more members numbers table i list c.loop-position.invariant within is.0 is.1)
      | else-is_unentered w ↦ rw w.list-is (unmarked_skipped members numbers table i list c.loop-position.invariant within (λ b. absurd (let yes = c.is_unentered.ensures.answer.1 b in let no = w.if-is_unentered.false in cc)))
    ]

pub returns-clause-members : goal.returns-clause-members
returns-clause-members g c =
    let all : c.loop-position.position ≡ length c.args.set.now = let test = c.loop-position-test.false in let end = c.loop-position.auto.position-end in let count = c.node_count-position-end.ensures in omega arith in
    unmarked_all c.args.set.now c.args.numbers.now c.args.entered.now c.loop-position.position (map g.G.Ix.IndexType.index_of c.loop-position.list.items) c.loop-position.invariant all

pub returns-in_err-push : goal.returns-in_err-push
returns-in_err-push g c = let none = c.from_residual.ensures.0 in record { ascends = if_ok _ _ none; members = if_ok _ _ none }
