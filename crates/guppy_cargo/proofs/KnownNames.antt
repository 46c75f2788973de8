-- IDs of packages that are called by a text are a graph's.
use Rattle.std.proofs.Common.{◌≡◌, ℕ, zero, suc, ◌<◌, Bool, true, false, cond, List, [], ◌∷◌, filter, map, length, get_or, sym, arith}
use Rattle.guppy_data.specs.declared.records.PackageRecord.{PackageRecord}
use Rattle.guppy_graph.specs.Ids.{IsKnown}
use Rattle.guppy_arguments.specs.Names.{is_called, called}

first_known : (r : PackageRecord) (rs others : List PackageRecord) (id : List ℕ) (rest : List (List ℕ)) → (map (λ (p : PackageRecord). p.id) others ≡ id ∷ rest → IsKnown rs id)
    → (here : Bool) → map (λ (p : PackageRecord). p.id) (cond here (r ∷ others) others) ≡ id ∷ rest → IsKnown (r ∷ rs) id
first_known r rs others id rest among true is = (zero, cc is)
first_known r rs others id rest among false is = let known = among is in (suc known.0, known.1)

-- the first ID of the packages that are called so is a package's
pub called_known : (packages : List PackageRecord) (text id : List ℕ) (rest : List (List ℕ)) → called packages text ≡ id ∷ rest → IsKnown packages id
called_known [] text id rest is = absurd (cc is)
called_known (r ∷ rs) text id rest is = first_known r rs (filter (is_called text) rs) id rest (called_known rs text id rest) (is_called text r) is

pub first_called : (packages : List PackageRecord) (text : List ℕ) (ids : List (List ℕ)) (other : List ℕ) → ids ≡ called packages text → 0 < length ids → IsKnown packages (get_or ids 0 other)
first_called packages text [] other is some = absurd (omega (arith, some))
first_called packages text (id ∷ rest) other is some = called_known packages text id rest (sym is)
