-- Links as numbers with ends.
use Rattle.std.proofs.Common.{◌≡◌, ℕ, ◌<◌, List, [], ◌∷◌, length, map, refl, sym, ap, ◌∙◌, arith, inl, inr, Bool, Some}
use Rattle.std.specs.Prelude.{slice_get, slice_index, All}
use Rattle.std.proofs.lemmas.List.{get_or-map, length-map}
use Rattle.std.proofs.lemmas.List.Elements.{All-map, All-weaker, Contains-get_or}
use Rattle.std.proofs.lemmas.Option.{slice_get_within, slice_get_cases, get_or_from_slice_get}
use Rattle.guppy_search.specs.declared.ix.direction.DependencyDirection.{DependencyDirection}
use Rattle.guppy_search.specs.declared.graph_core.link.Link.{Link}
use Rattle.guppy_search.specs.Graph.{LinkIs}
use Rattle.guppy_search.specs.Links.{near_end, far_end, links_at, EndsBelow}
use Rattle.guppy_search.specs.Stored.{far_at, far_ends_at}
use Rattle.guppy_search.specs.Walked.{AreWalked, LinkEnds, ends_at, numbers_of}
use Rattle.guppy_search.proofs.Rows.{row_links, row_within}
use Rattle.guppy_search.proofs.SearchSteps.{far_end_below}

-- the link whose number and far end these are
pub record IsLinkAt {E : Type 0} (d : DependencyDirection) (links : List (Link E)) (p n far : ℕ) : Type 0 where
  pub link : Link E
  pub found : slice_get links n ≡ Some link
  pub near : near_end d link ≡ p
  pub far_is : far ≡ far_end d link

module _ {E : Type 0} (links : List (Link E)) where
  read_at : (f : Link E → ℕ) (n : ℕ) (l : Link E) → slice_get links n ≡ Some l → slice_index (map f links) n ≡ f l
  read_at f n l found = get_or-map f links n l 0 (slice_get_within links n l found) ∙ ap f (get_or_from_slice_get links n l l found)

  pub ends_at-found : (n : ℕ) (l : Link E) → slice_get links n ≡ Some l → ends_at links n ≡ (let ends : LinkEnds = record { from = l.from; to = l.to; number = n } in ends)
  ends_at-found n l found = rw (read_at (λ (l : Link E). l.from) n l found, read_at (λ (l : Link E). l.to) n l found)

  -- the far end that is stored of a link
  pub far_at-found : (d : DependencyDirection) (n : ℕ) (l : Link E) → slice_get links n ≡ Some l → far_at d links n ≡ far_end d l
  far_at-found d n l found = read_at (far_end d) n l found

  -- the far ends of a position's links are positions
  pub far_below : (d : DependencyDirection) (count p : ℕ) → All (EndsBelow count) links → All (λ e. e < count) (far_ends_at d links p)
  far_below d count p ends =
      All-map (λ e. e < count) (far_at d links) (links_at d links p) (All-weaker (λ n. n < length links) (λ n. far_at d links n < count) (λ n within. elim (slice_get_cases links n).1 [
        | inl s ↦ rw (far_at-found d n s.0 s.2) (far_end_below d links count n s.0 s.2 ends)
        | inr s ↦ absurd (let past = s.0 in omega arith)
      ]) (links_at d links p) (row_within d links p (links_at d links p) refl))

  -- as many far ends stand beside the numbers of a position
  pub beside_len : (d : DependencyDirection) (p : ℕ) → length (far_ends_at d links p) ≡ length (links_at d links p)
  beside_len d p = length-map (links_at d links p) (far_at d links)

  -- beside its number stands the far end of a link
  pub far_beside : (d : DependencyDirection) (p k : ℕ) (l : Link E) → k < length (links_at d links p) → slice_get links (slice_index (links_at d links p) k) ≡ Some l → slice_index (far_ends_at d links p) k ≡ far_end d l
  far_beside d p k l within found = get_or-map (far_at d links) (links_at d links p) k 0 0 within ∙ far_at-found d _ l found

  -- at each place of a position's lists stand number and far end of one link
  pub link_beside : (d : DependencyDirection) (p k : ℕ) (row far : List ℕ) → row ≡ links_at d links p → far ≡ far_ends_at d links p → k < length row → IsLinkAt d links p (slice_index row k) (slice_index far k)
  link_beside d p k row far row_is far_is within =
      let inside : k < length (links_at d links p) = rw (← row_is) within in
      let at = row_links d links p k inside in
      rw (row_is, far_is) (record { link = at.link; found = at.found; near = at.near; far_is = far_beside d p k at.link inside at.found })

  ends_are : (n : ℕ) → n < length links → LinkIs links (ends_at links n).from (ends_at links n).to n
  ends_are n within = elim (slice_get_cases links n).1 [
    | inl s ↦ (s.0, s.2, sym (read_at (λ (l : Link E). l.from) n s.0 s.2), sym (read_at (λ (l : Link E). l.to) n s.0 s.2))
    | inr s ↦ absurd (let past = s.0 in omega arith)
  ]

  pub all_ends : (numbers : List ℕ) → All (λ n. n < length links) numbers → All (λ (l : LinkEnds). LinkIs links l.from l.to l.number) (map (ends_at links) numbers)
  all_ends numbers below = All-map (λ (l : LinkEnds). LinkIs links l.from l.to l.number) (ends_at links) numbers (All-weaker (λ n. n < length links) _ ends_are numbers below)

  pub numbers_of-ends : (numbers : List ℕ) → numbers_of (map (ends_at links) numbers) ≡ numbers
  numbers_of-ends [] = refl
  numbers_of-ends (n ∷ numbers) = ap (λ ns. n ∷ ns) (numbers_of-ends numbers)

  -- walked links are links
  pub walked_below : (d : DependencyDirection) (set : List Bool) (IsStart : ℕ → Type 0) (numbers : List ℕ) → AreWalked d links set IsStart numbers → All (λ n. n < length links) numbers
  walked_below d set IsStart numbers are k n h =
      let w = (are.walked _).0 (Contains-get_or numbers k n h) in
      slice_get_within links _ w.link w.found
