-- Clauses by which a package runs on the host where others do.
use Rattle.std.specs.Prelude.{◌≡◌, ℕ, Bool, not, List, ◌++◌, None, map}
use Rattle.std.specs.Bool.{then_some}
use Rattle.guppy_closure.specs.declared.clause.Clause.{Clause}
use Rattle.guppy_closure.specs.Named.{StandsAt}
use Rattle.guppy_data.specs.declared.records.LinkRecord.{LinkRecord}
use Rattle.guppy_data.specs.declared.records.PackageRecord.{PackageRecord}
use Rattle.guppy_platforms.specs.Counting.{is_asked_for}
use Rattle.guppy_platforms.specs.Host.{is_macro}

-- the head holds where this is given, and else follows from the other fact
abbrev pub clause : Bool → List ℕ → List ℕ → Clause (List ℕ)
clause is_given fact head = record { first = then_some (not is_given) fact; second = None; head = head }

-- a procedural macro runs there; of another package nothing is said
abbrev pub package_clause : PackageRecord → Clause (List ℕ)
package_clause p = clause (is_macro p) p.id p.id

-- what is asked for to build runs there; any other dependency where the package does
abbrev pub link_clause : LinkRecord → Clause (List ℕ)
link_clause l = clause (is_asked_for l.build) l.from l.to

-- of all packages and links
abbrev pub clauses_of : List PackageRecord → List LinkRecord → List (Clause (List ℕ))
clauses_of packages links = map package_clause packages ++ map link_clause links

-- the first list, and maybe more behind it
abbrev pub Grows : List (List ℕ) → List (List ℕ) → Type 0
Grows before after = (more : List (List ℕ)) × (after ≡ before ++ more)

-- no text stands at two places
abbrev pub AreApart : List (List ℕ) → Type 0
AreApart texts = (text : List ℕ) (p q : ℕ) → StandsAt texts text p → StandsAt texts text q → p ≡ q
