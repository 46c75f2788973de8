-- The way back from a package to the start.
use Rattle.std.proofs.Common.{◌≡◌, ℕ, ◌+◌, ◌<◌, Bool, List, [], ◌∷◌, ◌++◌, length, map, reverse, refl, sym, ap, subst, ◌∙◌, arith, Some, None, length-append}
use Rattle.std.specs.Prelude.{slice_get, All}
use Rattle.std.proofs.lemmas.List.{map-append, length-map, reverse-append, length-reverse}
use Rattle.std.proofs.lemmas.List.Elements.{All-push}
use Rattle.std.proofs.lemmas.Option.{slice_get_within}
use Rattle.guppy.specs.declared.link.PackageLink.{PackageLink}
use Rattle.guppy.specs.declared.metadata.PackageMetadata.{PackageMetadata}
use Rattle.guppy.specs.Views.{graph_of, package_position, link_graph, link_number}
use Rattle.guppy_extras.specs.declared.why.search.Found.{Found}
use Rattle.guppy_extras.specs.Walk.{IsWalk}
use Rattle.guppy_extras.specs.Nodes.{Node}
use Rattle.guppy_extras.specs.Searches.{node_of, links_beside, UnderWay}
use Rattle.guppy_extras.proofs.SearchedWalks.{walk_from}
use Rattle.guppy_extras.proofs.PackageSteps.{node_at, led_at, link_graph_at, begun_at}

map-reverse : {A B : Type 0} (f : A → B) (xs : List A) → map f (reverse xs) ≡ reverse (map f xs)
map-reverse f [] = refl
map-reverse f (x ∷ xs) =
    ap (map f) (reverse-append (x ∷ []) xs)
    ∙ map-append f (reverse xs) (x ∷ [])
    ∙ ap (λ ys. ys ++ f x ∷ []) (map-reverse f xs)
    ∙ sym (reverse-append (f x ∷ []) (map f xs))

module _ (start : PackageMetadata) (found : List Found) where
  -- the links, from the last one back, lead from the package at one place to that at the other
  pub record IsBack (place at : ℕ) (links : List PackageLink) : Type 0 where
    pub of_graph : All (λ l. link_graph l ≡ graph_of start) links
    pub end : Node
    pub here : Node
    pub end_at : slice_get (map node_of found) place ≡ Some end
    pub here_at : slice_get (map node_of found) at ≡ Some here
    pub count : length links + here.distance ≡ end.distance
    pub walk : IsWalk (links_beside start) here.position end.position (reverse (map link_number links))

  pub back_first : (place : ℕ) (f : Found) (links : List PackageLink) → slice_get found place ≡ Some f → links ≡ [] → IsBack place place links
  back_first place f links at none = rw none (record {
    of_graph = λ k d h. absurd (omega arith);
    end = node_of f;
    here = node_of f;
    end_at = node_at found place f at;
    here_at = node_at found place f at;
    count = omega arith;
    walk = refl;
  })

  pub back_within : (place at : ℕ) (links : List PackageLink) → IsBack place at links → at < length found
  back_within place at links now =
      let within = slice_get_within (map node_of found) at now.here now.here_at in
      let same = length-map found node_of in
      omega arith

  module _ (seen : List Bool) (done : ℕ) (under : UnderWay start found seen done) (place at : ℕ) (links : List PackageLink) (now : IsBack place at links) (f : Found) (there : slice_get found at ≡ Some f) where
    same_node : now.here ≡ node_of f
    same_node = (let e = now.here_at in let g = node_at found at f there in cc)

    -- one link further back
    pub back_step : (link : PackageLink) (before : ℕ) (more : List PackageLink) → f.last ≡ Some (link, before) → more ≡ links ++ link ∷ [] → IsBack place before more
    back_step link before more last grown =
        let led = led_at start found seen done under at f there link before last in
        let of_graph = link_graph_at start found seen done under at f there link before last in
        let rest : IsWalk (links_beside start) (package_position f.metadata) now.end.position (reverse (map link_number links)) = subst (λ (n : Node). IsWalk (links_beside start) n.position now.end.position (reverse (map link_number links))) same_node now.walk in
        let on : IsWalk (links_beside start) led.link.to now.end.position (reverse (map link_number links)) = subst (λ p. IsWalk (links_beside start) p now.end.position (reverse (map link_number links))) (sym led.ends) rest in
        let numbers : reverse (map link_number (links ++ link ∷ [])) ≡ link_number link ∷ reverse (map link_number links) = ap reverse (map-append link_number links (link ∷ [])) ∙ reverse-append (map link_number links) (link_number link ∷ []) in
        rw grown (record {
          of_graph = All-push (λ (l : PackageLink). link_graph l ≡ graph_of start) links link now.of_graph of_graph;
          end = now.end;
          here = led.earlier;
          end_at = now.end_at;
          here_at = led.at;
          count =
              let d = ap (λ (n : Node). n.distance) same_node in
              let further = led.distance_is in
              let was = now.count in
              let more_is = length-append links (link ∷ []) in
              omega arith;
          walk = subst (IsWalk (links_beside start) led.earlier.position now.end.position) (sym numbers) (walk_from (links_beside start) led.earlier.position now.end.position (link_number link) (reverse (map link_number links)) led.link led.found led.leaves on);
        })

    pub back_smaller : (link : PackageLink) (before : ℕ) → f.last ≡ Some (link, before) → before < at
    back_smaller link before last = (led_at start found seen done under at f there link before last).is_before

    -- the start is reached
    pub back_done : (forth : List PackageLink) → f.last ≡ None → forth ≡ reverse links → (n : Node) × (slice_get (map node_of found) place ≡ Some n) × (length forth ≡ n.distance) × IsWalk (links_beside start) (package_position start) n.position (map link_number forth)
    back_done forth none is =
        let begun = begun_at start found seen done under at f there none in
        let d = ap (λ (n : Node). n.distance) same_node in
        let was = now.count in
        let zero_is : f.distance ≡ 0 = begun.1 in
        let turned = length-reverse links in
        let count : length (reverse links) ≡ now.end.distance = omega arith in
        let position : now.here.position ≡ package_position start = ap (λ (n : Node). n.position) same_node ∙ begun.0 in
        rw is (
          now.end,
          now.end_at,
          count,
          subst (IsWalk (links_beside start) (package_position start) now.end.position) (sym (map-reverse link_number links)) (subst (λ p. IsWalk (links_beside start) p now.end.position (reverse (map link_number links))) position now.walk),
        )
