use Rattle.std.proofs.Common.{◌≡◌, subst, ℕ, All, take, get_or, Some, slice_get}
use Rattle.std.proofs.lemmas.List.{take_all}
use Rattle.std.proofs.lemmas.List.Elements.{All-more}
use Rattle.std.proofs.lemmas.Option.{slice_get-get_or}
use Rattle.guppy_search.specs.declared.ix.direction.DependencyDirection.TheVariants.{Forward}
use Rattle.guppy_search.specs.Links.{links_at}
use Rattle.guppy_graph.specs.Verified.{IsLinkVerified}
use Rattle.guppy_graph.proofs.VerifiedGraphs.{fault_lacks}
use Rattle.guppy_graph.proofs.graph.RecordGraph.fault_of_links.Goals as goal

pub fault_of_link-requires : goal.fault_of_link-requires
fault_of_link-requires c = (rw c.dep_graph.ensures.links at c.links_of-number-items.ensures.within) c.loop-number.number-index 0 c.loop-number-test.true

pub returns-in-Some : goal.returns-in-Some
returns-in-Some c =
    let g = c.args.self.now in
    let numbers = c.links_of-number-items.result.now in
    let k = c.loop-number.number-index in
    let n : ℕ = get_or numbers k 0 in
    let are : numbers ≡ links_at Forward g.links c.args.position = rw (c.dep_graph.ensures.links, c.ix_at-ix.ensures) at c.links_of-number-items.ensures.links in
    record {
      place = k;
      first = record {
        item = n;
        found = subst (λ ns. slice_get ns k ≡ Some n) are (slice_get-get_or numbers k 0 c.loop-number-test.true);
        lacks = fault_lacks g n c.in-Some.fault c.in-Some.ensures;
        before = subst (λ ns. All (IsLinkVerified g) (take k ns)) are c.loop-number.invariant;
      };
      tells = c.in-Some.ensures;
    }

pub loop-number-preserved : goal.loop-number-preserved
loop-number-preserved c = All-more (IsLinkVerified c.args.self.now) c.links_of-number-items.result.now c.loop-number.number-index 0 c.loop-number-test.true c.loop-number.invariant c.in_default.ensures

pub returns : goal.returns
returns c =
    let g = c.args.self.now in
    let numbers = c.links_of-number-items.result.now in
    let are : numbers ≡ links_at Forward g.links c.args.position = rw (c.dep_graph.ensures.links, c.ix_at-ix.ensures) at c.links_of-number-items.ensures.links in
    subst (All (IsLinkVerified g)) are (subst (All (IsLinkVerified g)) (take_all c.loop-number.number-index numbers c.loop-number-test.false) c.loop-number.invariant)
