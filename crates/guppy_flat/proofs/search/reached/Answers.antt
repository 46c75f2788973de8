use Rattle.std.proofs.Common.{◌≡◌, ℕ, Bool, true, List, Some, refl, sym, ap, ◌∙◌}
use Rattle.std.specs.Prelude.{slice_get}
use Rattle.std.proofs.lemmas.List.Elements.{All-contains}
use Rattle.guppy_search.specs.declared.graph_core.link.Link.{Link}
use Rattle.guppy_search.proofs.Resolves.{AnswersBy, StepsAre, judged_reached}
use Rattle.guppy_search.proofs.Traces.{each_answer, IsCallable-same}
use Rattle.guppy_flat.specs.Search.{FlaggedStep}
use Rattle.guppy_flat.specs.declared.search.Flagged.{Flagged}
use Rattle.guppy_flat.proofs.search.reached.Goals as goal

pub reachable_with-requires-clause-ready : goal.reachable_with-requires-clause-ready
reachable_with-requires-clause-ready c = IsCallable-same _ _ _ _ _ _ (λ v n b t k. k.0) (λ n h. h)

pub returns-clause-reached : goal.returns-clause-reached
returns-clause-reached c =
    let d = c.args.direction in
    let links : List (Link Bool) = c.args.graph.now.links in
    let Answers : ℕ × Bool → Type 0 = λ (e : ℕ × Bool). (l : Link Bool) → slice_get links e.0 ≡ Some l → e.1 ≡ l.edge in
    let judged = rw c.in_ok-starts.ensures at c.in_ok-set.ensures.judged in
    let steps : StepsAre d (λ (l : Link Bool). l.edge ≡ true) links (FlaggedStep d links) = record {
      step_over = λ n l found kept. record { number = n; link = l; found = found; near = refl; far = refl; kept = kept };
      link_of = λ a b s. (s.number, s.link, s.found, s.near, s.far, s.kept);
    } in
    let answers : AnswersBy (λ (l : Link Bool). l.edge ≡ true) links judged.0 = λ n answer l h found.
    let same = All-contains Answers judged.0 (n, answer)
    (each_answer _ Answers (λ (v : Flagged). v.graph.now.links ≡ links)
    (λ v e t i k. (λ l f. k.1 l (rw i f), ap (λ (r : Flagged). r.graph.now.links) k.0 ∙ i))
    judged.0 _ _ refl judged.2) h l found in
    (λ e. sym same ∙ e, λ e. same ∙ e) in
    judged_reached d _ links _ steps c.args.starts.now judged.0 _ judged.1 answers
