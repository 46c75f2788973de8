use Rattle.std.proofs.Common.{◌↔◌, ◌<◌, length, sym, ap, ◌∙◌, subst}
use Rattle.std.specs.Prelude.{All}
use Rattle.std.specs.List.{concat, filter}
use Rattle.std.proofs.lemmas.List.Elements.{All-filter}
use Rattle.guppy_search.specs.IxSet.{has, IsIn}
use Rattle.guppy_core.specs.Listing.{Stands, IsOnce, IsListing}
use Rattle.guppy_core.proofs.SetMembers.{filter-listed, below_listed, count_listed, listed_members, listed_once}
use Rattle.guppy_core.proofs.resolve_core.topo.Topo.new.Goals as goal

pub invariant_of-result : goal.invariant_of-result
invariant_of-result g c =
    let set = c.args.included.now in
    let list = concat c.args.sccs.now in
    let left = c.node_iter.ensures.left in
    let listing : IsListing (length set) list = subst (λ n. IsListing n list) (sym c.requires) c.node_iter.ensures.listing in (
      subst (All (λ p. p < length set)) (sym left) (below_listed c.args.direction (length set) list listing),
      c.len.ensures ∙ sym (ap (λ xs. length (filter (has set) xs)) left ∙ count_listed c.args.direction set list listing),
    )

pub returns : goal.returns
returns g c =
    let set = c.args.included.now in
    let list = concat c.args.sccs.now in
    let listing : IsListing (length set) list = subst (λ n. IsListing n list) (sym c.requires) c.node_iter.ensures.listing in
    let left = ap (filter (has set)) c.node_iter.ensures.left ∙ filter-listed c.args.direction (has set) list in
    let below = below_listed c.args.direction (length set) list listing in
    record {
      left = left;
      members = λ p. subst (λ xs. Stands xs p ↔ IsIn set p) (sym left) (listed_members c.args.direction set list listing p);
      once = subst IsOnce (sym left) (listed_once c.args.direction set list listing);
      count = ap (λ xs. length (filter (has set) xs)) c.node_iter.ensures.left ∙ count_listed c.args.direction set list listing;
      below = All-filter (has set) (λ p. p < length set) _ (subst (All (λ p. p < length set)) (sym c.node_iter.ensures.left) below);
    }
