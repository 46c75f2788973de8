-- The first ID of a publish order.
use Rattle.std.proofs.Common.{◌≡◌, ◌≢◌, refl, ℕ, ◌<◌, true, List, [], ◌∷◌, map, None, Some, Bor, arith}
use Rattle.std.specs.Prelude.{Option, IsSomeAnd, MatchOption, is_some, slice_get}
use Rattle.std.specs.Option.{option_and_then}
use Rattle.std.specs.List.{cons_option}
use Rattle.std.proofs.lemmas.Option.{slice_get_within}
use Rattle.guppy_search.specs.Reach.{Walk}
use Rattle.guppy_data.specs.declared.records.PackageRecord.{PackageRecord}
use Rattle.guppy_graph.specs.Graph.{GraphData}
use Rattle.guppy_graph.specs.Ids.{HasId}
use Rattle.guppy_graph.specs.Members.{IsMember, member_path}
use Rattle.guppy_graph.specs.Ordered.{FirmStep}
use Rattle.guppy.specs.Listed.{ids_at}
use Rattle.guppy_publish.specs.Publishing.{IsPublishOrder}

-- the ID is that of a member from which no walk leads to another one; where there is none, there is no member
abbrev pub IsFirst : GraphData → Option (Bor (List ℕ)) → Type 0
IsFirst g first = MatchOption first
    ((p : ℕ) → IsMember g.packages p → ⊥)
    (λ id. (p : ℕ) × HasId g.packages id.now p × IsMember g.packages p
    × ((q : ℕ) → IsMember g.packages q → p ≢ q → Walk (FirmStep g.links) p q → ⊥))

-- a member has an ID, which stands first in the list of the IDs that it begins
own_id : (o : Option PackageRecord) (id : List ℕ) (ids rest : List (List ℕ)) → is_some (option_and_then member_path o) ≡ true
    → id ∷ ids ≡ cons_option (option_and_then (λ r. Some r.id) o) rest → IsSomeAnd o (λ r. r.id ≡ id)
own_id None id ids rest member is = absurd (cc)
own_id (Some r) id ids rest member is = cc

some_id : (o : Option PackageRecord) (rest : List (List ℕ)) → is_some (option_and_then member_path o) ≡ true
    → [] ≡ cons_option (option_and_then (λ r. Some r.id) o) rest → ⊥
some_id None rest member is = absurd (cc)
some_id (Some r) rest member is = absurd (cc)

pub first_of : (g : GraphData) (order : List ℕ) (ids : List (Bor (List ℕ))) → IsPublishOrder g order
    → map (λ id. id.now) ids ≡ ids_at g.packages order → IsFirst g (slice_get ids 0)
first_of g [] [] is_order same = λ p m.
    let there = (is_order.members p).1 m in
    let within : there.0 < 0 = slice_get_within [] there.0 p there.1 in
    absurd (omega arith)
first_of g [] (id ∷ ids) is_order same = absurd (cc)
first_of g (p ∷ rest) [] is_order same =
    absurd (some_id (slice_get g.packages p) (ids_at g.packages rest) ((is_order.members p).0 (0, refl)) same)
first_of g (p ∷ rest) (id ∷ ids) is_order same =
    let member = (is_order.members p).0 (0, refl) in (
      p,
      own_id (slice_get g.packages p) id.now (map (λ id. id.now) ids) (ids_at g.packages rest) member same,
      member,
      λ q m apart walk.
          let after = is_order.after p q (0, refl) ((is_order.members q).1 m) apart walk in
          let less : after.0 < after.1 = after.2 in
          let none : after.1 ≡ 0 = is_order.once after.1 0 p after.4 refl in
          absurd (omega arith),
    )
