use Rattle.std.proofs.Common.{◌≡◌, ◌∙◌, subst, Bor, Some, None}
use Rattle.std.specs.Prelude.{slice_get, IsSomeAnd}
use Rattle.guppy_graph.specs.Graph.{GraphData}
use Rattle.guppy.specs.Views.{link_number, package_position}
use Rattle.guppy_program.specs.Publish.{hindrance_of}
use Rattle.guppy_program.proofs.Hindrances.{free, leads_to}
use Rattle.guppy_program.proofs.publish.needed_by.Goals as goal

pub returns-in_default : goal.returns-in_default
returns-in_default c = λ p has. let no = c.in_default.ensures.known (p, has) in absurd (cc no)

pub returns-in-None : goal.returns-in-None
returns-in-None c =
    let found = c.in-Ok.ensures.found in
    let position = package_position c.in-Ok.metadata in
    free c.args.graph.now c.requires c.args.id.now position found.1
    (subst (λ (h : Bor GraphData). hindrance_of h.now position ≡ None) found.0 c.in-None.ensures.number)

pub returns-in-Some : goal.returns-in-Some
returns-in-Some c =
    let found = c.in-Ok.ensures.found in
    let position = package_position c.in-Ok.metadata in
    let g = c.args.graph in
    let link = c.in-Some.link in
    let number = link_number link in
    let to = package_position c.to.result in
    let of = c.in-Some.ensures.graph ∙ found.0 in
    let leads = subst (λ (h : Bor GraphData). IsSomeAnd (slice_get h.now.links number) (λ l. to ≡ l.to)) of c.to.ensures.position in
    let called = subst (λ (h : Bor GraphData). IsSomeAnd (slice_get h.now.packages to) (λ r. c.id.result.now ≡ r.id)) (c.to.ensures.graph ∙ of) c.id.ensures in
    record {
      position = position;
      from_is = found.1;
      number = number;
      first = subst (λ (h : Bor GraphData). hindrance_of h.now position ≡ Some number) found.0 c.in-Some.ensures.number;
      to_is = leads_to g.now.packages (slice_get g.now.links number) to c.id.result.now leads called;
    }
