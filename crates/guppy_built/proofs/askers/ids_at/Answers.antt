use Rattle.std.proofs.Common.{◌∙◌, ℕ, List, Bor, Vec, Global, map, ap, sym}
use Rattle.std.specs.Prelude.{option_map}
use Rattle.std.proofs.lemmas.List.{get_or_default}
use Rattle.guppy_features.proofs.ChosenLists.{made_none, made_some}
use Rattle.guppy_built.specs.Features.{id_at}
use Rattle.guppy_built.proofs.askers.ids_at.Goals as goal
use Rattle.guppy_built.proofs.askers.ids_at.Goals.{in-Some+in_ok-push, in_default}

pub loop-position-preserved : goal.loop-position-preserved
loop-position-preserved c =
    let h = id_at c.args.graph.now in
    let seen = λ (id : Bor (List ℕ)). id.now in
    let positions = c.args.positions.now in
    let i = c.loop-position.position-index in
    let below = c.loop-position-test.true in
    let ids = c.loop-position.ids.items in
    elim c.match-id_at.branch [
      | in-Some+in_ok-push w ↦
          let pushed = ap (λ (ids : Vec (Bor (List ℕ)) Global). ids.items) w.ids-is ∙ w.in_ok-push.ensures.items in
          ap (map seen) pushed ∙ made_some (λ (p : ℕ). p) h positions i _ seen ids below (get_or_default positions i _ _ below) c.loop-position.invariant w.in-Some.id
          (sym c.id_at.ensures ∙ ap (option_map seen) w.in-Some.is)
      | in_default w ↦
          let same = ap (λ (ids : Vec (Bor (List ℕ)) Global). ids.items) w.ids-is in
          ap (map seen) same ∙ made_none (λ (p : ℕ). p) h positions i _ seen ids below (get_or_default positions i _ _ below) c.loop-position.invariant
          (sym c.id_at.ensures ∙ ap (option_map seen) w.in_default.is)
    ]
