-- Links between positions, and their ends in a direction.
use Rattle.std.specs.Prelude.{◌||◌, nat_le, ◌≡◌, ◌==◌, ℕ, ◌+◌, ◌<◌, Bool, if◌then◌else◌, List, [], ◌∷◌, Some, slice_get, Contains}
use Rattle.std.specs.Borrow.{Bor}
use Rattle.guppy_search.specs.declared.ix.direction.DependencyDirection.{DependencyDirection}
use Rattle.guppy_search.specs.declared.ix.direction.DependencyDirection.TheVariants.{Forward, Reverse}
use Rattle.guppy_search.specs.declared.graph_core.link.Link.{Link}

-- the other direction
abbrev pub opposite : DependencyDirection → DependencyDirection
opposite Forward = Reverse
opposite Reverse = Forward

-- the end that a link leaves in the direction
abbrev pub near_end : {E : Type 0} → DependencyDirection → Link E → ℕ
near_end Forward l = l.from
near_end Reverse l = l.to

-- the end that it leads to in the direction
abbrev pub far_end : {E : Type 0} → DependencyDirection → Link E → ℕ
far_end Forward l = l.to
far_end Reverse l = l.from

-- one of the links with these numbers leads to the position
abbrev pub IsLedTo : {E : Type 0} → DependencyDirection → List (Link E) → List ℕ → ℕ → Type 0
IsLedTo {E} d links numbers p =
    (n : ℕ) × (l : Link E) × Contains numbers n × (slice_get links n ≡ Some l) × (far_end d l ≡ p)

-- the numbers of the elements that pass, ascending, where the first has the number i
abbrev pub numbers_where : {A : Type 0} → (A → Bool) → ℕ → List A → List ℕ
numbers_where p i [] = []
numbers_where p i (x ∷ xs) =
    if p x then i ∷ numbers_where p (i + 1) xs else numbers_where p (i + 1) xs

-- the numbers of the links that leave the position in the direction, ascending
abbrev pub links_at : {E : Type 0} → DependencyDirection → List (Link E) → ℕ → List ℕ
links_at d links p = numbers_where (λ l. near_end d l == p) 0 links

-- both ends are positions below n
abbrev pub EndsBelow : {E : Type 0} → ℕ → Link E → Type 0
EndsBelow n l = (l.from < n) × (l.to < n)

-- the same ordered pair
abbrev pub SamePair : {E : Type 0} → Link E → Link E → Type 0
SamePair a b = (a.from ≡ b.from) × (a.to ≡ b.to)

-- whether an end is no position below n
abbrev pub is_unknown : {E : Type 0} → ℕ → Link E → Bool
is_unknown n l = nat_le n l.from || nat_le n l.to

-- the link without its data: its ends alone
abbrev pub bare : {E : Type 0} → Link E → Link (Unit {0})
bare l = record { from = l.from; to = l.to; edge = tt }

-- the links with these ends and these data, taken by number
abbrev pub links_between : {E : Type 0} → List (Link (Unit {0})) → List E → List (Link E)
links_between (l ∷ ends) (edge ∷ edges) =
    record { from = l.from; to = l.to; edge = edge } ∷ links_between ends edges
links_between ends edges = []

-- the link as its data are behind the reference
abbrev pub seen_link : {E : Type 0} → Link (Bor E) → Link E
seen_link l = record { from = l.from; to = l.to; edge = l.edge.now }
