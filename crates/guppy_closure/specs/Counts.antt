-- How often clauses are looked at.
use Rattle.std.specs.Prelude.{ℕ, suc, zero, ◌+◌, ◌==◌, Bool, Option, Some, None, List, [], ◌∷◌, if◌then◌else◌}
use Rattle.guppy_search.specs.IxSet.{has}
use Rattle.guppy_closure.specs.declared.clause.Clause.{Clause}
use Rattle.guppy_closure.specs.Clauses.{is_given}

-- one if the fact is there and in the set
abbrev pub one_in : List Bool → Option ℕ → ℕ
one_in set (Some f) = if has set f then 1 else 0
one_in set None = 0

-- a clause with no body is looked at once, any other once for each fact of its body in the set
abbrev pub looks_of : List Bool → Clause ℕ → ℕ
looks_of set c = if is_given c then 1 else one_in set c.first + one_in set c.second

-- how many clauses have no body
abbrev pub given_count : List (Clause ℕ) → ℕ
given_count [] = 0
given_count (c ∷ cs) = if is_given c then 1 + given_count cs else given_count cs

-- one if it is this fact
abbrev pub one_is : ℕ → Option ℕ → ℕ
one_is f (Some g) = if g == f then 1 else 0
one_is f None = 0

-- how many of them are this fact
abbrev pub fact_count : List (Option ℕ) → ℕ → ℕ
fact_count [] f = 0
fact_count (fact ∷ facts) f = one_is f fact + fact_count facts f

-- how many of them are in the set
abbrev pub held_count : List Bool → List (Option ℕ) → ℕ
held_count set [] = 0
held_count set (fact ∷ facts) = one_in set fact + held_count set facts

-- the head of the clause of this number
abbrev pub head_of : List (Clause ℕ) → ℕ → ℕ
head_of [] n = 0
head_of (c ∷ cs) zero = c.head
head_of (c ∷ cs) (suc n) = head_of cs n

-- how many of the facts are heads of these clauses, each counted for each
abbrev pub owed : List (Clause ℕ) → List (Option ℕ) → List ℕ → ℕ
owed clauses facts [] = 0
owed clauses facts (n ∷ ns) = fact_count facts (head_of clauses n) + owed clauses facts ns
