-- Lists of IDs, paths or names that a call is handed, and how far it reads them.
use Rattle.std.specs.Prelude.{ℕ, List, Option, map}
use Rattle.std.specs.Iterator.{Drains, Yields}
use Rattle.std.specs.Borrow.{Bor}

-- the text of an ID or a name
abbrev pub text_now : Bor (List ℕ) → List ℕ
text_now text = text.now

module _ {I T : Type 0} where
  -- the list is read to its end, and P holds of its texts
  abbrev pub ReadsAll : (I → Option T → I → Type 0) → (T → List ℕ) → I → (List (List ℕ) → Type 0)
      → Type 0
  ReadsAll gives text list P = (read : List T) × Drains gives list read × P (map text read)

  -- the list is read up to a text, and P holds of the texts so far and of the last of them
  abbrev pub ReadsTo : (I → Option T → I → Type 0) → (T → List ℕ) → I
      → (List (List ℕ) → List ℕ → Type 0) → List ℕ → Type 0
  ReadsTo gives text list P last =
      (read : List T) × (rest : I) × Yields gives list read rest × P (map text read) last

-- some package is there with the text
abbrev pub HasSome : (List ℕ → ℕ → Type 0) → List ℕ → Type 0
HasSome At text = (p : ℕ) × At text p
