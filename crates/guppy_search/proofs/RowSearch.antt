-- A link between two positions, found in a row.
use Rattle.std.proofs.Common.{◌≡◌, ℕ, List, length, get_or, sym, ◌∙◌, Option, None, Some}
use Rattle.std.specs.Prelude.{Contains, MatchOption}
use Rattle.std.proofs.lemmas.List.{get_or_default}
use Rattle.guppy_search.specs.declared.ix.direction.DependencyDirection.TheVariants.{Forward}
use Rattle.guppy_search.specs.declared.graph_core.link.Link.{Link}
use Rattle.guppy_search.specs.Graph.{NoLink, LinkIs}
use Rattle.guppy_search.specs.Links.{links_at}
use Rattle.guppy_search.specs.Stored.{far_ends_at}
use Rattle.guppy_search.specs.Pairs.{NoneTo, IsFirstTo}
use Rattle.guppy_search.proofs.Rows.{row_links, row_has}
use Rattle.guppy_search.proofs.Ends.{far_beside}

-- what the row tells of the links
pub found_link : {E : Type 0} (links : List (Link E)) (from to : ℕ) (r : Option ℕ) → MatchOption r (NoneTo (far_ends_at Forward links from) to (length (links_at Forward links from))) (IsFirstTo (links_at Forward links from) (far_ends_at Forward links from) to) → MatchOption r (NoLink links from to) (LinkIs links from to)
found_link links from to None none = λ n l.
    let c : Contains (links_at Forward links from) n = row_has Forward links from n l.0 l.1 l.2 in
    let place : get_or (links_at Forward links from) c.0 0 ≡ n = get_or_default _ c.0 0 n c.1 ∙ c.2 in
    none c.0 c.1 (far_beside links Forward from c.0 l.0 c.1 (rw place l.1) ∙ l.3)
found_link links from to (Some n) f =
    let at = f.at in
    let one = row_links Forward links from f.place f.within in
    (one.link, rw (← at) one.found, one.near, sym (far_beside links Forward from f.place one.link f.within one.found) ∙ f.leads)
