-- Lists of packages that are tried as cycles over links that aren't dev-only.
use Rattle.std.proofs.Common.{◌≡◌, ◌⊎◌, ◌∙◌, sym, refl, ap, subst, arith, inl, inr, ⊎_elim, ℕ, zero, suc, ◌+◌, ◌-◌, ◌<◌, ◌≤◌, Bool, true, false, List, [], ◌∷◌, length, replicate, get_or, All, Some, slice_get}
use Rattle.std.specs.Prelude.{◌↔◌, map, option_map}
use Rattle.std.specs.List.{AllZip}
use Rattle.std.proofs.Math.ListN.{set, length-replicate}
use Rattle.std.proofs.lemmas.Bool.{cases_lt}
use Rattle.std.proofs.lemmas.Option.{slice_get-get_or, slice_get-map, slice_get_within, get_or_from_slice_get}
use Rattle.guppy_search.specs.declared.graph_core.link.Link.{Link}
use Rattle.guppy_search.specs.IxSet.{has}
use Rattle.guppy_search.proofs.Members.{has-replicate}
use Rattle.guppy_search.specs.Links.{EndsBelow}
use Rattle.guppy_search.specs.Graph.{NoLink, LinkIs}
use Rattle.guppy_core.specs.Topo.{HasNoCycle}
use Rattle.guppy_core.specs.Cycle.{IsCycle, IsAcyclic}
use Rattle.guppy_core.proofs.Cycles.{acyclic_steps}
use Rattle.guppy_core.proofs.Listings.{IsSetOf, set_more}
use Rattle.guppy_data.specs.declared.records.PackageRecord.{PackageRecord}
use Rattle.guppy_data.specs.declared.records.LinkRecord.{LinkRecord}
use Rattle.guppy_search.specs.declared.ix.index_type.PackageIx.{PackageIx}
use Rattle.guppy_graph.specs.Ids.{HasId, IsKnown, DistinctBelow, ix_position}
use Rattle.guppy_graph.specs.Accepted.{distinct_ids}
use Rattle.guppy_graph.specs.Ordered.{FirmStep, is_firm}
use Rattle.guppy_graph.specs.Graph.{GraphData, IsPackageGraph}
use Rattle.guppy_graph.specs.FirmCycles.{IsFirmCycle, HasNoFirmCycle}
use Rattle.guppy_graph.proofs.Lists.{some_at, All-from_AllZip, All-slice_get}
use Rattle.guppy_graph.proofs.PackageIds.{position_is}

-- k is the place before i, in a list of n that goes round
abbrev pub IsBefore : ℕ → ℕ → ℕ → Type 0
IsBefore n i k = (k + 1 ≡ i) ⊎ ((i ≡ 0) × (k + 1 ≡ n))

-- the first i of the list were each once, and each had a step from the one before it
pub record Rounds (R : ℕ → ℕ → Type 0) (limit : ℕ) (list : List ℕ) (i before : ℕ) (seen : List Bool) : Type 0 where
  pub set_is : IsSetOf list limit i seen
  pub once : (j k x : ℕ) → j < i → k < i → slice_get list j ≡ Some x → slice_get list k ≡ Some x → j ≡ k
  pub linked : (j k x y : ℕ) → j < i → IsBefore (length list) j k → slice_get list k ≡ Some x → slice_get list j ≡ Some y → R x y
  pub last : (k : ℕ) → IsBefore (length list) i k → slice_get list k ≡ Some before

module _ (R : ℕ → ℕ → Type 0) (limit : ℕ) (list : List ℕ) where
  cycle_step : IsCycle R list → (j k x y : ℕ) → IsBefore (length list) j k → slice_get list k ≡ Some x → slice_get list j ≡ Some y → R x y
  cycle_step c j k x y o at_x at_y = ⊎_elim
      (λ e. c.steps k x y at_x (subst (λ z. slice_get list z ≡ Some y) (sym e) at_y))
      (λ e. c.back k x y at_x e.1 (subst (λ z. slice_get list z ≡ Some y) e.0 at_y))
      o

  pub rounds_first : (before : ℕ) → ((k : ℕ) → k + 1 ≡ length list → slice_get list k ≡ Some before) → Rounds R limit list 0 before (replicate limit false)
  rounds_first before at_end = record {
    set_is = record {
      limit_is = length-replicate limit false;
      members = λ p. (λ h. absurd (let n = has-replicate limit p in cc), λ s. absurd (let l = s.1 in omega arith));
    };
    once = λ j k x l m a b. absurd (omega arith);
    linked = λ j k x y l o a b. absurd (omega arith);
    last = λ k o. ⊎_elim (λ e. absurd (omega arith)) (λ e. at_end k e.1) o;
  }

  module _ (i before : ℕ) (seen : List Bool) (s : Rounds R limit list i before seen) where
    -- all had one
    pub rounds_all : length list ≤ i → (1 < length list) ↔ IsCycle R list
    rounds_all all = (
      λ several. record {
        several = omega arith;
        once = λ j k x a b. s.once j k x (let l = slice_get_within list j x a in omega arith) (let l = slice_get_within list k x b in omega arith) a b;
        steps = λ j x y a b. s.linked (j + 1) j x y (let l = slice_get_within list (j + 1) y b in omega arith) (inl refl) a b;
        back = λ j x y a e b. s.linked 0 j x y (omega arith) (inr (refl, e)) a b;
      },
      λ c. let l = c.several in omega arith,
    )

    module _ (v : ℕ) (at : slice_get list i ≡ Some v) where
      -- the place before the next one
      place_before : (k : ℕ) × IsBefore (length list) i k
      place_before = go i at
        where
          go : (n : ℕ) → slice_get list n ≡ Some v → (k : ℕ) × IsBefore (length list) n k
          go zero a = let l = slice_get_within list zero v a in (length list - 1, inr (refl, omega arith))
          go (suc n) a = (n, inl (omega arith))

      -- the one before it is one of the list
      pub rounds_below : All (λ p. p < limit) list → before < limit
      rounds_below below = let p = place_before in All-slice_get (λ p. p < limit) list p.0 before below (s.last p.0 p.1)

      -- the next is there already
      pub rounds_repeat : has seen v ≡ true → IsCycle R list → ⊥
      rounds_repeat there c =
          let b = (s.set_is.members v).0 there in
          let e = c.once b.0 i v b.2 at in
          let l = b.1 in
          omega arith

      -- no step leads to it from the one before
      pub rounds_unlinked : (R before v → ⊥) → IsCycle R list → ⊥
      rounds_unlinked none c = let p = place_before in none (cycle_step c i p.0 before v p.1 (s.last p.0 p.1) at)

      -- it is new, and a step leads to it
      pub rounds_more : has seen v ≡ false → R before v → All (λ p. p < limit) list → Rounds R limit list (i + 1) v (set seen v true)
      rounds_more lacks r below =
          let within = slice_get_within list i v at in
          let is : get_or list i 0 ≡ v = get_or_from_slice_get list i v 0 at in
          let new : (j : ℕ) → j < i → slice_get list j ≡ Some v → ⊥ = λ j l a. absurd (let h = (s.set_is.members v).1 (j, l, a) in cc) in
          record {
            set_is = subst (λ z. IsSetOf list limit (i + 1) (set seen z true)) is (set_more list limit i seen s.set_is within below);
            once = λ j k x l m a b. ⊎_elim
                (λ jl. ⊎_elim
                (λ kl. s.once j k x jl kl a b)
                (λ kg. absurd (let e : k ≡ i = omega arith in let b' = subst (λ z. slice_get list z ≡ Some x) e b in let same : x ≡ v = cc in new j jl (subst (λ z. slice_get list j ≡ Some z) same a)))
                (cases_lt k i))
                (λ jg. ⊎_elim
                (λ kl. absurd (let e : j ≡ i = omega arith in let a' = subst (λ z. slice_get list z ≡ Some x) e a in let same : x ≡ v = cc in new k kl (subst (λ z. slice_get list k ≡ Some z) same b)))
                (λ kg. omega arith)
                (cases_lt k i))
                (cases_lt j i);
            linked = λ j k x y l o a b. ⊎_elim
                (λ jl. s.linked j k x y jl o a b)
                (λ jg.
                let e : j ≡ i = omega arith in
                let o' = subst (λ z. IsBefore (length list) z k) e o in
                let b' = subst (λ z. slice_get list z ≡ Some y) e b in
                let last = s.last k o' in
                let same_x : before ≡ x = cc in
                let same_y : v ≡ y = cc in
                subst (λ z. R z y) same_x (subst (λ z. R before z) same_y r))
                (cases_lt j i);
            last = λ k o. ⊎_elim
                (λ e. let same : k ≡ i = omega arith in subst (λ z. slice_get list z ≡ Some v) (sym same) at)
                (λ e. absurd (let z = e.0 in omega arith))
                o;
          }

-- the positions of a list, place by place
pub position_at : (ixs : List PackageIx) (k : ℕ) (d : PackageIx) → k < length ixs → slice_get (map ix_position ixs) k ≡ Some (ix_position (get_or ixs k d))
position_at ixs k d h = slice_get-map ix_position ixs k ∙ ap (option_map ix_position) (slice_get-get_or ixs k d h)

pub each_position : (P : ℕ → Type 0) (ixs : List PackageIx) → ((i p : ℕ) → slice_get (map ix_position ixs) i ≡ Some p → P p) → All (λ ix. P (ix_position ix)) ixs
each_position P ixs each k d h = each k (ix_position (get_or ixs k d)) (position_at ixs k d h)

-- the empty list is no cycle
pub none_no_cycle : (R : ℕ → ℕ → Type 0) (list : List ℕ) → length list ≡ 0 → IsCycle R list → ⊥
none_no_cycle R list e c = let s = c.several in omega arith

-- a link that isn't dev-only leads from one to the other where the link that does is none
pub firm_by_link : (links : List (Link LinkRecord)) → ((i j : ℕ) (a b : Link LinkRecord) → slice_get links i ≡ Some a → slice_get links j ≡ Some b → (a.from ≡ b.from) × (a.to ≡ b.to) → i ≡ j) → (p q n : ℕ) (l : Link LinkRecord) → slice_get links n ≡ Some l → LinkIs links p q n → (is_firm l.edge ≡ true) ↔ FirmStep links p q
firm_by_link links single p q n l at is =
    let same : l ≡ is.0 = let f = is.1 in cc in (
      λ firm. record { number = n; link = l; found = at; near = subst (λ (z : Link LinkRecord). z.from ≡ p) (sym same) is.2; far = subst (λ (z : Link LinkRecord). z.to ≡ q) (sym same) is.3; kept = firm },
      λ s.
          let e = single n s.number is.0 s.link is.1 s.found (is.2 ∙ sym s.near, is.3 ∙ sym s.far) in
          let f = subst (λ z. slice_get links z ≡ Some s.link) (sym e) s.found in
          let one : s.link ≡ l = cc in
          subst (λ (z : Link LinkRecord). is_firm z.edge ≡ true) one s.kept,
    )

pub firm_by_none : (links : List (Link LinkRecord)) (p q : ℕ) → NoLink links p q → FirmStep links p q → ⊥
firm_by_none links p q none s = none s.number (s.link, s.found, s.near, s.far)

zip_one : (packages : List PackageRecord) → DistinctBelow packages (length packages) → (ids : List (List ℕ)) (ps qs : List ℕ) → AllZip (HasId packages) ids ps → AllZip (HasId packages) ids qs → ps ≡ qs
zip_one packages distinct [] [] [] a b = refl
zip_one packages distinct [] [] (q ∷ qs) a b = absurd b
zip_one packages distinct [] (p ∷ ps) qs a b = absurd a
zip_one packages distinct (id ∷ ids) [] qs a b = absurd a
zip_one packages distinct (id ∷ ids) (p ∷ ps) [] a b = absurd b
zip_one packages distinct (id ∷ ids) (p ∷ ps) (q ∷ qs) a b =
    let first = position_is packages distinct id p q a.0 b.0 in
    let rest = zip_one packages distinct ids ps qs a.1 b.1 in
    ap (λ x. x ∷ ps) first ∙ ap (λ xs. q ∷ xs) rest

module _ (g : GraphData) (is : IsPackageGraph g) where
  -- the positions of IDs are a cycle where the IDs are one
  pub firm_cycle_at : (ids : List (List ℕ)) (ps : List ℕ) → AllZip (HasId g.packages) ids ps → IsCycle (FirmStep g.links) ps ↔ IsFirmCycle g ids
  firm_cycle_at ids ps named = (
    λ c. record { positions = ps; named = named; cycle = c },
    λ c. subst (IsCycle (FirmStep g.links)) (zip_one g.packages (is.accepted distinct_ids) ids c.positions ps c.named named) c.cycle,
  )

  -- an ID that is no package's is in none
  pub unknown_no_cycle : (ids : List (List ℕ)) → (All (IsKnown g.packages) ids → ⊥) → IsFirmCycle g ids → ⊥
  unknown_no_cycle ids unknown c = unknown (All-from_AllZip (HasId g.packages) ids c.positions c.named)

  firm_below : (x y : ℕ) → FirmStep g.links x y → x < length g.packages
  firm_below x y s =
      let at = slice_get_within g.links s.number s.link s.found in
      let both : EndsBelow (length g.packages) s.link = subst (λ (l : Link LinkRecord). EndsBelow (length g.packages) l) (get_or_from_slice_get g.links s.number s.link s.link s.found) (is.graph.ends s.number s.link at) in
      subst (λ v. v < length g.packages) s.near both.0

  names_of : (ps : List ℕ) → ((i p : ℕ) → slice_get ps i ≡ Some p → p < length g.packages) → (ids : List (List ℕ)) × AllZip (HasId g.packages) ids ps
  names_of [] below = ([], tt)
  names_of (p ∷ ps) below =
      let r = some_at g.packages p (below 0 p refl) in
      let rest = names_of ps (λ i q h. below (suc i) q h) in
      (r.0.id ∷ rest.0, (rw r.1 refl, rest.1))

  -- the positions of a cycle are below the count of the packages
  pub cycle_below : (ps : List ℕ) → IsCycle (FirmStep g.links) ps → (i p : ℕ) → slice_get ps i ≡ Some p → p < length g.packages
  cycle_below ps c i p at = ⊎_elim
      (λ less. let n = some_at ps (i + 1) less in firm_below p n.0 (c.steps i p n.0 at n.1))
      (λ ge.
      let within = slice_get_within ps i p at in
      let first = some_at ps 0 (omega arith) in
      firm_below p first.0 (c.back i p first.0 at (omega arith) first.1))
      (cases_lt (i + 1) (length ps))

  -- where no list of IDs is a cycle, no list of positions is
  pub no_firm_cycle : HasNoFirmCycle g → IsAcyclic (FirmStep g.links)
  no_firm_cycle none ps c = let ids = names_of ps (cycle_below ps c) in none ids.0 (record { positions = ps; named = ids.1; cycle = c })

  -- and links that aren't dev-only lead round to no other package
  pub no_firm_round : HasNoFirmCycle g → HasNoCycle (FirmStep g.links)
  no_firm_round none = acyclic_steps (FirmStep g.links) (no_firm_cycle none)

  pub acyclic_firm : IsAcyclic (FirmStep g.links) → HasNoFirmCycle g
  acyclic_firm none ids c = none c.positions c.cycle
