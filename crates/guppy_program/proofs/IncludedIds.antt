-- The IDs of the packages in a set, and what was given where nothing is left.
use Rattle.std.proofs.Common.{◌≡◌, ◌↔◌, ◌⊎◌, ⊎_elim, inl, inr, ℕ, zero, suc, List, [], ◌∷◌, length, Contains, refl, arith}
use Rattle.std.specs.List.{concat, cons_option}
use Rattle.std.specs.Prelude.{Option, Some, None, IsSomeAnd, option_map, slice_get}
use Rattle.guppy_core.specs.Listing.{IsListing, Stands}
use Rattle.guppy_core.proofs.SetMembers.{listed_members}
use Rattle.guppy_search.specs.declared.ix.direction.DependencyDirection.{DependencyDirection}
use Rattle.guppy_data.specs.declared.records.PackageRecord.{PackageRecord}
use Rattle.guppy_graph.specs.Ids.{HasId}
use Rattle.guppy.specs.Listed.{ids_at, positions_listed}
use Rattle.guppy.specs.Query.{IncludesId, SetData}

-- an ID among those of one more package, if there is one, and of the rest
module _ (packages : List PackageRecord) (id : List ℕ) where
  listed_first : (o : Option PackageRecord) (rest : List (List ℕ)) → IsSomeAnd o (λ r. r.id ≡ id) → Contains (cons_option (option_map (λ r. r.id) o) rest) id
  listed_first None rest has = absurd has
  listed_first (Some r) rest has = (zero, omega arith, has)

  listed_later : (o : Option PackageRecord) (rest : List (List ℕ)) → Contains rest id → Contains (cons_option (option_map (λ r. r.id) o) rest) id
  listed_later None rest there = there
  listed_later (Some r) rest (k, within, same) = (suc k, omega arith, same)

  listed_cases : (o : Option PackageRecord) (rest : List (List ℕ)) → Contains (cons_option (option_map (λ r. r.id) o) rest) id → IsSomeAnd o (λ r. r.id ≡ id) ⊎ Contains rest id
  listed_cases None rest there = inr there
  listed_cases (Some r) rest (zero, within, same) = inl same
  listed_cases (Some r) rest (suc k, within, same) = inr (k, omega arith, same)

  -- an ID that is listed of positions is that of the package at one of them
  listed-HasId : (ps : List ℕ) → Contains (ids_at packages ps) id → (p : ℕ) × Stands ps p × HasId packages id p
  listed-HasId [] (k, within, same) = absurd (omega arith)
  listed-HasId (p ∷ ps) there = ⊎_elim
      (λ here. (p, (zero, refl), here))
      (λ rest. let later = listed-HasId ps rest in (later.0, (suc later.1.0, later.1.1), later.2))
      (listed_cases (slice_get packages p) (ids_at packages ps) there)

  -- and the ID of each of these packages is listed
  HasId-listed : (ps : List ℕ) (p : ℕ) → Stands ps p → HasId packages id p → Contains (ids_at packages ps) id
  HasId-listed [] p (k, at) has = absurd (cc at)
  HasId-listed (q ∷ ps) p (zero, at) has = listed_first (slice_get packages q) (ids_at packages ps) (let same : q ≡ p = cc at in rw same has)
  HasId-listed (q ∷ ps) p (suc k, at) has = listed_later (slice_get packages q) (ids_at packages ps) (HasId-listed ps p (k, at) has)

-- a set lists exactly the IDs of its packages
pub listed_is_included : (d : DependencyDirection) (s : SetData) → length s.included ≡ length s.graph.packages → IsListing (length s.graph.packages) (concat s.graph.components)
    → (id : List ℕ) → Contains (ids_at s.graph.packages (positions_listed d s)) id ↔ IncludesId s id
listed_is_included d s count listing id =
    let members = listed_members d s.included (concat s.graph.components) (rw count listing) in (
      λ there. let p = listed-HasId s.graph.packages id (positions_listed d s) there in (p.0, p.2, (members p.0).0 p.1),
      λ includes. HasId-listed s.graph.packages id (positions_listed d s) includes.0 ((members includes.0).1 includes.2) includes.1,
    )
