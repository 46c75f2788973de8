use Rattle.std.proofs.Common.{◌≡◌, ◌↔◌, ℕ, Bool, true, List, refl, sym, ap, subst, ◌∙◌, Some}
use Rattle.std.specs.Prelude.{slice_get}
use Rattle.std.proofs.lemmas.List.Elements.{All-contains}
use Rattle.guppy_search.specs.declared.graph_core.link.Link.{Link}
use Rattle.guppy_search.specs.Walked.{IsInside}
use Rattle.guppy_search.proofs.Resolves.{AnswersBy}
use Rattle.guppy_search.proofs.Traces.{each_answer, IsCallable-same}
use Rattle.guppy_search.proofs.WalkedLinks.{accepted_are_walked}
use Rattle.guppy_search.proofs.walk.inside.walked_numbers.Goals as goal

pub reachable_recorded-requires-clause-ready : goal.reachable_recorded-requires-clause-ready
reachable_recorded-requires-clause-ready g c = IsCallable-same _ _ _ _ _ _ (λ v n b t k. k.0) (λ n h. (h, c.requires.set))

pub returns : goal.returns
returns g c =
    let links : List (Link g.row.G-Edge.Denot) = c.args.graph.now.links in
    let set : List Bool = c.args.set.now in
    let entries : List (ℕ × Bool) = c.in_ok-_reached.recorder.entries.items in
    let P : ℕ × Bool → Type 0 = λ (e : ℕ × Bool). (l : Link g.row.G-Edge.Denot) → slice_get links e.0 ≡ Some l → (e.1 ≡ true) ↔ IsInside set l in
    let answers : AnswersBy (IsInside set) links entries = λ n answer l h found.
    All-contains P entries (n, answer)
    (each_answer _ P (λ q. (q.graph.now.links ≡ links) × (q.set.now ≡ set))
    (λ q e t i k. (
      λ l found. subst (λ s. (e.1 ≡ true) ↔ IsInside s l) i.1 (k.1 l (subst (λ ls. slice_get ls e.0 ≡ Some l) (sym i.0) found)),
      (ap (λ r. r.graph.now.links) k.0 ∙ i.0, ap (λ r. r.set.now) k.0 ∙ i.1),
    ))
    entries _ _ (refl, refl) c.in_ok-_reached.ensures.visits)
    h l found in
    rw (c.in_ok-numbers.ensures, c.as_slice.ensures.value)
    (accepted_are_walked c.args.direction links c.args.initials.now set entries c.in_ok-_reached._reached c.in_ok-_reached.ensures.judged answers)
