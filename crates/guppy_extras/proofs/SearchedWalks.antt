-- What a search under way says of walks.
use Rattle.std.proofs.Common.{◌≡◌, ◌⊎◌, ⊎_elim, ℕ, zero, suc, ◌+◌, ◌<◌, ◌≤◌, Bool, List, [], ◌∷◌, length, inl, inr, sym, subst, arith, Some, None}
use Rattle.std.specs.Prelude.{slice_get, MatchOption}
use Rattle.std.proofs.lemmas.Bool.{cases_lt}
use Rattle.std.proofs.lemmas.Option.{slice_get_within}
use Rattle.guppy_search.specs.declared.graph_core.link.Link.{Link}
use Rattle.guppy_graph.proofs.Lists.{some_of, of_some}
use Rattle.guppy_extras.specs.Walk.{IsWalk}
use Rattle.guppy_extras.specs.Nodes.{Node, IsFoundWithin, IsLedTo, start_node, Searched, AreElsewhere}

-- a node whose links were not all followed is nearer than this
abbrev pub IsLeftWithin : List Node → ℕ → ℕ → Type 0
IsLeftWithin nodes done distance = (k : ℕ) × (n : Node) × (done ≤ k) × (slice_get nodes k ≡ Some n) × (n.distance < distance)

module _ {E : Type 0} (links : List (Link E)) where
  -- a link and a walk from its end are a walk
  pub walk_from : (a b n : ℕ) (ns : List ℕ) (l : Link E) → slice_get links n ≡ Some l → l.from ≡ a → IsWalk links l.to b ns → IsWalk links a b (n ∷ ns)
  walk_from a b n ns l found from rest = of_some (slice_get links n) (λ (k : Link E). (k.from ≡ a) × IsWalk links k.to b ns) l found (from, rest)

  module _ (start : ℕ) (nodes : List Node) (seen : List Bool) (done : ℕ) (now : Searched links start nodes seen done) where
    -- where a walk from a node leads is found no further than by it, unless it passes a node that is left
    pub found_by_walk : (b k : ℕ) (n : Node) (ns : List ℕ) → slice_get nodes k ≡ Some n → IsWalk links n.position b ns → IsFoundWithin nodes b (n.distance + length ns) ⊎ IsLeftWithin nodes done (n.distance + length ns)
    found_by_walk b k n [] at walk = inl (k, n, at, walk, omega arith)
    found_by_walk b k n (number ∷ ns) at walk =
        let one = some_of (slice_get links number) (λ (l : Link E). (l.from ≡ n.position) × IsWalk links l.to b ns) walk in
        ⊎_elim
        (λ h.
        let there = now.followed k number n one.0 h at one.1 one.2.0 in
        let m = there.1 in
        let rest : IsWalk links m.position b ns = subst (λ p. IsWalk links p b ns) (sym there.3) one.2.1 in
        let closer : m.distance ≤ n.distance + 1 = there.4 in
        elim (found_by_walk b there.0 m ns there.2 rest) [
          | inl f ↦ inl (f.0, f.1, f.2, f.3, let le : f.1.distance ≤ m.distance + length ns = f.4 in omega arith)
          | inr u ↦ inr (u.0, u.1, u.2, u.3, let lt : u.1.distance < m.distance + length ns = u.4 in omega arith)
        ])
        (λ h. inr (k, n, h, at, omega arith))
        (cases_lt k done)

    -- a node that is no further than others is no further than by any walk
    abbrev pub IsNearest : Node → Type 0
    IsNearest n = (ns : List ℕ) → IsWalk links start n.position ns → n.distance ≤ length ns

    -- the node at `done` is the nearest at its position, where none before it is there
    pub nearest : (n : Node) → slice_get nodes done ≡ Some n → AreElsewhere nodes done n.position → IsNearest n
    nearest n at elsewhere ns walk = elim (found_by_walk n.position 0 (start_node start) ns now.begins walk) [
      | inl f ↦ ⊎_elim
          (λ before. absurd (elsewhere f.0 f.1 before f.2 f.3))
          (λ later. (let up : n.distance ≤ f.1.distance = now.rising done f.0 n f.1 later at f.2 in let le : f.1.distance ≤ 0 + length ns = f.4 in omega arith))
          (cases_lt f.0 done)
      | inr u ↦ (let up : n.distance ≤ u.1.distance = now.rising done u.0 n u.1 u.2 at u.3 in let lt : u.1.distance < 0 + length ns = u.4 in omega arith)
    ]

    -- no walk leads to a position at which no node is, once the links of all nodes were followed
    pub no_walk : (b : ℕ) → length nodes ≤ done → AreElsewhere nodes done b → (ns : List ℕ) → ¬ IsWalk links start b ns
    no_walk b all elsewhere ns walk = elim (found_by_walk b 0 (start_node start) ns now.begins walk) [
      | inl f ↦ (let within = slice_get_within nodes f.0 f.1 f.2 in elsewhere f.0 f.1 (omega arith) f.2 f.3)
      | inr u ↦ (let within = slice_get_within nodes u.0 u.1 u.3 in let le : done ≤ u.0 = u.2 in absurd (omega arith))
    ]

    distance_bounded : (fuel k : ℕ) (n : Node) → k < fuel → slice_get nodes k ≡ Some n → n.distance ≤ k
    distance_bounded zero k n less at = absurd (omega arith)
    distance_bounded (suc fuel) k n less at =
        elim n.last as (λ last. MatchOption last ((n.position ≡ start) × (n.distance ≡ 0)) (λ pair. IsLedTo links nodes k n pair.0 pair.1) → n.distance ≤ k) [
          | None ↦ λ h. (let e : n.distance ≡ 0 = h.1 in omega arith)
          | Some pair ↦ λ h. (
              let b : pair.1 < k = h.is_before in
              let less_before : pair.1 < fuel = omega arith in
              let le = distance_bounded fuel pair.1 h.earlier less_before h.at in
              let d = h.distance_is in
              omega arith)
        ] (now.entered k n at)

    -- a node is no further than its place
    pub distance_le : (k : ℕ) (n : Node) → slice_get nodes k ≡ Some n → n.distance ≤ k
    distance_le k n at = distance_bounded (k + 1) k n (omega arith) at
