-- The links that leave a package, those still to come.
use Rattle.std.proofs.Common.{◌≡◌, ℕ, List, [], ◌∷◌, map, refl, sym, ap, ◌∙◌}
use Rattle.std.specs.Borrow.{Bor}
use Rattle.guppy_search.specs.declared.ix.direction.DependencyDirection.TheVariants.{Forward}
use Rattle.guppy_search.specs.Links.{links_at}
use Rattle.guppy.specs.declared.link.PackageLink.{PackageLink}
use Rattle.guppy.specs.declared.metadata.PackageMetadata.{PackageMetadata}
use Rattle.guppy.specs.DirectLinks.{links_leaving}
use Rattle.guppy_graph.specs.Graph.{GraphData}
use Rattle.guppy.specs.Views.{graph_of, package_position, link_graph, link_number, link_seen}
use Rattle.guppy_extras.specs.Searches.{links_beside}

-- the links with these numbers
abbrev pub numbered : Bor GraphData → List ℕ → List (Bor GraphData × ℕ)
numbered g ns = map (λ n. (g, n)) ns

pub leaving : (start m : PackageMetadata) (left : List (Bor GraphData × ℕ)) → graph_of m ≡ graph_of start → left ≡ links_leaving m Forward → left ≡ numbered (graph_of start) (links_at Forward (links_beside start) (package_position m))
leaving start m left same is = is ∙ ap (λ (g : Bor GraphData). numbered g (links_at Forward g.now.links (package_position m))) same

-- the next link, and those behind it
pub record IsNext (g : Bor GraphData) (ns : List ℕ) (link : PackageLink) (rest : List (Bor GraphData × ℕ)) : Type 0 where
  pub more : List ℕ
  pub numbers : ns ≡ link_number link ∷ more
  pub rest_is : rest ≡ numbered g more
  pub graph : link_graph link ≡ g

pub next_of : (g : Bor GraphData) (ns : List ℕ) (link : PackageLink) (rest : List (Bor GraphData × ℕ)) → numbered g ns ≡ link_seen link ∷ rest → IsNext g ns link rest
next_of g [] link rest e = absurd (cc)
next_of g (n ∷ ns) link rest e =
    let first : ◌≡◌ {A = Bor GraphData × ℕ} (g, n) (link_graph link, link_number link) = cc in
    let later : numbered g ns ≡ rest = cc in
    let number : n ≡ link_number link = ap (λ (p : Bor GraphData × ℕ). p.1) first in
    record {
      more = ns;
      numbers = ap (λ k. k ∷ ns) number;
      rest_is = sym later;
      graph = sym (ap (λ (p : Bor GraphData × ℕ). p.0) first);
    }

-- none is left
pub none_left : (g : Bor GraphData) (ns : List ℕ) → numbered g ns ≡ [] → ns ≡ []
none_left g [] e = refl
none_left g (n ∷ ns) e = cc
