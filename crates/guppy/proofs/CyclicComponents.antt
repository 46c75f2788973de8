-- The components that are cycles, and the IDs of their packages.
use Rattle.std.proofs.Common.{◌≡◌, ◌⊎◌, ◌∙◌, sym, ap, refl, subst, ⊎_elim, inl, inr, arith, ℕ, zero, suc, ◌<◌, Bool, true, false, cond, List, [], ◌∷◌, ◌++◌, length, All, Option, Some, None, map, slice_get}
use Rattle.std.specs.Prelude.{◌==◌, ◌&&◌, MatchOption, IsSomeAnd, is_some}
use Rattle.std.specs.Option.{option_and_then}
use Rattle.std.specs.List.{Contains, filter, filter_map, cons_option}
use Rattle.std.specs.Slice.Iter.{iter_rest}
use Rattle.std.proofs.lemmas.Bool.{and_parts, and_from, or_cases, or_left, or_right, eqb-true, eq-eqb, ltb-true, lt-ltb, false_from_ne_true}
use Rattle.std.proofs.lemmas.List.{append-nil, length-map}
use Rattle.std.proofs.lemmas.List.Elements.{All-contains, All-filter, All-contains_itself, filter-append, filter_passes, Contains-append_right}
use Rattle.std.proofs.lemmas.List.Folds.{Any-from_list_any, list_any-from_Any}
use Rattle.std.proofs.lemmas.Option.{slice_get_within, slice_get-get_or, get_or_from_slice_get}
use Rattle.guppy_search.specs.declared.graph_core.link.Link.{Link}
use Rattle.guppy_search.specs.declared.ix.direction.DependencyDirection.TheVariants.{Forward}
use Rattle.guppy_search.specs.Graph.{NoLink, LinkIs}
use Rattle.guppy_search.specs.Reach.{LinkStep}
use Rattle.guppy_data.specs.declared.records.PackageRecord.{PackageRecord}
use Rattle.guppy_data.proofs.Mapped.{Contains-map, from_map}
use Rattle.guppy_graph.specs.Cycles.{AreCyclic, AreOnOne, has_self_link, is_cyclic_component, cyclic_components}
use Rattle.guppy_graph.specs.Graph.{GraphData, IsPackageGraph}
use Rattle.guppy_graph.specs.Ids.{HasId, id_at, ix_position}
use Rattle.guppy.specs.declared.cycles.CycleIds.{CycleIds}
use Rattle.guppy.specs.Listed.{ids_at}
use Rattle.guppy.specs.ListedCycles.{cycles_of, cycle_left}
use Rattle.guppy.proofs.SetLists.{ids_at-count}
use Rattle.guppy_graph.proofs.OnCycles.{IsCyclicBlock, block_of_cycle, cycle_of_block, near_below}

module _ {E : Type 0} (links : List (Link E)) where
  self_link_leads : (p : ℕ) → has_self_link links p ≡ true → LinkStep Forward links p p
  self_link_leads p h =
      let any = Any-from_list_any (λ (l : Link E). (l.from == p) && (l.to == p)) links h in
      let ends = and_parts (any.1.from == p) (any.1.to == p) any.4 in
      record {
        number = any.0;
        link = any.1;
        found = slice_get-get_or links any.0 any.1 any.2 ∙ ap Some any.3;
        near = eqb-true any.1.from p ends.0;
        far = eqb-true any.1.to p ends.1;
        kept = refl;
      }

  self_link_there : (p : ℕ) → LinkStep Forward links p p → has_self_link links p ≡ true
  self_link_there p s = list_any-from_Any (λ (l : Link E). (l.from == p) && (l.to == p)) links (
    s.number,
    s.link,
    slice_get_within links s.number s.link s.found,
    get_or_from_slice_get links s.number s.link s.link s.found,
    and_from (s.link.from == p) (s.link.to == p) (eq-eqb s.link.from p s.near) (eq-eqb s.link.to p s.far),
  )

  -- whether the link from a position to itself is found
  pub found_self_link : (p : ℕ) (number : Option ℕ) → MatchOption number (NoLink links p p) (LinkIs links p p) → is_some number ≡ has_self_link links p
  found_self_link p (Some n) l = sym (self_link_there p (record { number = n; link = l.0; found = l.1; near = l.2; far = l.3; kept = refl }))
  found_self_link p None none = sym (false_from_ne_true _ (λ h. let s = self_link_leads p h in none s.number (s.link, s.found, s.near, s.far)))

  cyclic_from_test : (b : List ℕ) → is_cyclic_component links b ≡ true → IsCyclicBlock (LinkStep Forward links) b
  cyclic_from_test b h = ⊎_elim
      (λ long. inl (ltb-true 1 (length b) long))
      (λ some. let any = Any-from_list_any (has_self_link links) b some in
      inr (any.1, (any.0, slice_get-get_or b any.0 any.1 any.2 ∙ ap Some any.3), self_link_leads any.1 any.4))
      (or_cases _ _ h)

  test_from_cyclic : (b : List ℕ) → IsCyclicBlock (LinkStep Forward links) b → is_cyclic_component links b ≡ true
  test_from_cyclic b cyclic = ⊎_elim
      (λ long. or_left _ _ (lt-ltb 1 (length b) long))
      (λ l. or_right _ _ (list_any-from_Any (has_self_link links) b (
        l.1.0,
        l.0,
        slice_get_within b l.1.0 l.0 l.1.1,
        get_or_from_slice_get b l.1.0 l.0 l.0 l.1.1,
        self_link_there l.0 l.2,
      )))
      cyclic

-- a test passes over what it doesn't keep, at the front of a list and at its end
pub filter_skips : {X : Type 0} (p : X → Bool) (x : X) (xs : List X) → p x ≡ false → filter p (x ∷ xs) ≡ filter p xs
filter_skips p x xs lacks = rw lacks refl

pub filter_skips_last : {X : Type 0} (p : X → Bool) (x : X) (xs : List X) → p x ≡ false → filter p (xs ++ x ∷ []) ≡ filter p xs
filter_skips_last p x xs lacks = filter-append p xs (x ∷ []) ∙ ap (λ ys. filter p xs ++ ys) (filter_skips p x [] lacks) ∙ append-nil (filter p xs)

-- of the given components, those before or behind these are no cycles, and all lie below n
pub record ArePassedOver {E : Type 0} (links : List (Link E)) (n : ℕ) (given components : List (List ℕ)) : Type 0 where
  pub same : filter (is_cyclic_component links) components ≡ filter (is_cyclic_component links) given
  pub below : All (All (λ p. p < n)) components

-- what stands in a list is contained there
contained : {X : Type 0} (xs : List X) (k : ℕ) (x : X) → slice_get xs k ≡ Some x → Contains xs x
contained xs k x at = (k, slice_get_within xs k x at, get_or_from_slice_get xs k x x at)

found_at : {X : Type 0} (xs : List X) (x : X) → (h : Contains xs x) → slice_get xs h.0 ≡ Some x
found_at xs x h = slice_get-get_or xs h.0 x h.1 ∙ ap Some h.2

kept_later : {X : Type 0} (b : Bool) (x y : X) (rest : List X) → Contains rest y → Contains (cond b (x ∷ rest) rest) y
kept_later true x y rest h = Contains-append_right (x ∷ []) rest y h
kept_later false x y rest h = h

Contains-filter : {X : Type 0} (p : X → Bool) (xs : List X) (x : X) → Contains xs x → p x ≡ true → Contains (filter p xs) x
Contains-filter p [] x (k, within, same) keeps = absurd (omega arith)
Contains-filter p (y ∷ ys) x (zero, within, same) keeps = let here : p y ≡ true = ap p same ∙ keeps in rw here (zero, omega arith, same)
Contains-filter p (y ∷ ys) x (suc k, within, same) keeps = kept_later (p y) y x (filter p ys) (Contains-filter p ys x (k, omega arith, same) keeps)

from_filter : {X : Type 0} (p : X → Bool) (xs : List X) (x : X) → Contains (filter p xs) x → Contains xs x × (p x ≡ true)
from_filter p xs x h = (
  All-contains (Contains xs) (filter p xs) x (All-filter p (Contains xs) xs (All-contains_itself xs)) h,
  All-contains (λ y. p y ≡ true) (filter p xs) x (filter_passes p xs) h,
)

optional_later : {X : Type 0} (o : Option X) (rest : List X) (y : X) → Contains rest y → Contains (cons_option o rest) y
optional_later None rest y h = h
optional_later (Some x) rest y h = Contains-append_right (x ∷ []) rest y h

optional_cases : {X : Type 0} (o : Option X) (rest : List X) (y : X) → Contains (cons_option o rest) y → (o ≡ Some y) ⊎ Contains rest y
optional_cases None rest y h = inr h
optional_cases (Some x) rest y (zero, within, same) = inl (ap Some same)
optional_cases (Some x) rest y (suc k, within, same) = inr (k, omega arith, same)

Contains-filter_map : {X Y : Type 0} (f : X → Option Y) (xs : List X) (x : X) (y : Y) → Contains xs x → f x ≡ Some y → Contains (filter_map f xs) y
Contains-filter_map f [] x y (k, within, same) gives = absurd (omega arith)
Contains-filter_map f (z ∷ zs) x y (zero, within, same) gives = let here : f z ≡ Some y = ap f same ∙ gives in rw here (zero, omega arith, refl)
Contains-filter_map f (z ∷ zs) x y (suc k, within, same) gives = optional_later (f z) (filter_map f zs) y (Contains-filter_map f zs x y (k, omega arith, same) gives)

from_filter_map : {X Y : Type 0} (f : X → Option Y) (xs : List X) (y : Y) → Contains (filter_map f xs) y → (x : X) × Contains xs x × (f x ≡ Some y)
from_filter_map f [] y (k, within, same) = absurd (omega arith)
from_filter_map f (x ∷ xs) y h = ⊎_elim
    (λ here. (x, (zero, omega arith, refl), here))
    (λ rest. let later = from_filter_map f xs y rest in (later.0, Contains-append_right (x ∷ []) xs later.0 later.1, later.2))
    (optional_cases (f x) (filter_map f xs) y h)

id_from_has : (o : Option PackageRecord) (id : List ℕ) → IsSomeAnd o (λ r. r.id ≡ id) → option_and_then (λ r. Some r.id) o ≡ Some id
id_from_has None id h = absurd h
id_from_has (Some r) id h = ap Some h

has_from_id : (o : Option PackageRecord) (id : List ℕ) → option_and_then (λ r. Some r.id) o ≡ Some id → IsSomeAnd o (λ r. r.id ≡ id)
has_from_id None id h = absurd (cc)
has_from_id (Some r) id h = cc

has_within : (packages : List PackageRecord) (p : ℕ) (id : List ℕ) → HasId packages id p → p < length packages
has_within [] p id h = absurd h
has_within (r ∷ packages) zero id h = omega arith
has_within (r ∷ packages) (suc p) id h = let l = has_within packages p id h in omega arith

-- each package of a cycle has an ID
pub cycle_left-count : (s : CycleIds) → length (cycle_left s) ≡ length (iter_rest s.rest)
cycle_left-count s = ids_at-count s.graph.now.packages (map ix_position (iter_rest s.rest)) s.in_graph ∙ length-map (iter_rest s.rest) ix_position

module _ (g : GraphData) (is : IsPackageGraph g) where
  -- packages whose IDs are on one of the listed cycles are cyclic
  pub cyclic_from_listed : (a b : List ℕ) → AreOnOne (cycles_of g) a b → AreCyclic g a b
  cyclic_from_listed a b (cycle, listed, has_a, has_b) =
      let from = from_map (ids_at g.packages) (cyclic_components g) cycle listed in
      let component = from.0 in
      let kept = from_filter (is_cyclic_component g.links) g.components component from.1 in
      let p = from_filter_map (id_at g.packages) component a (subst (λ ids. Contains ids a) (sym from.2) has_a) in
      let q = from_filter_map (id_at g.packages) component b (subst (λ ids. Contains ids b) (sym from.2) has_b) in (
        p.0,
        q.0,
        has_from_id (slice_get g.packages p.0) a p.2,
        has_from_id (slice_get g.packages q.0) b q.2,
        cycle_of_block (LinkStep Forward g.links) (length g.packages) g.index g.components is.ordered.components_are
            (near_below (length g.packages) g.links is.graph.ends) kept.0.0 component p.0 q.0 (found_at g.components component kept.0)
            (p.1.0, found_at component p.0 p.1) (q.1.0, found_at component q.0 q.1) (cyclic_from_test g.links component kept.1),
      )

  -- and the IDs of cyclic packages are on one of them
  pub listed_from_cyclic : (a b : List ℕ) → AreCyclic g a b → AreOnOne (cycles_of g) a b
  listed_from_cyclic a b (p, q, has_p, has_q, cyclic) =
      let s = block_of_cycle (LinkStep Forward g.links) (length g.packages) g.index g.components is.ordered.components_are
      (near_below (length g.packages) g.links is.graph.ends) p q (has_within g.packages p a has_p) (has_within g.packages q b has_q) cyclic in
      let kept = Contains-filter (is_cyclic_component g.links) g.components s.1 (contained g.components s.0 s.1 s.2) (test_from_cyclic g.links s.1 s.5) in (
        ids_at g.packages s.1,
        Contains-map (ids_at g.packages) (cyclic_components g) s.1 kept,
        Contains-filter_map (id_at g.packages) s.1 p a (contained s.1 s.3.0 p s.3.1) (id_from_has (slice_get g.packages p) a has_p),
        Contains-filter_map (id_at g.packages) s.1 q b (contained s.1 s.4.0 q s.4.1) (id_from_has (slice_get g.packages q) b has_q),
      )
