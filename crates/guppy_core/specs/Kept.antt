-- What is asked of the calls that decide which links are kept.
use Rattle.std.specs.Prelude.{◌≡◌, ℕ, List, Some, slice_get}
use Rattle.std.specs.Borrow.{Bor}
use Rattle.guppy_search.specs.declared.graph_core.link.Link.{Link}

-- this holds of a reference to the data of each link; of one to other data nothing is said
abbrev pub OnLinks : {E : Type 0} → List (Link E) → (Bor E → Type 0) → Type 0
OnLinks {E} links P =
    (n : ℕ) (l : Link E) (e : Bor E) → slice_get links n ≡ Some l → e.now ≡ l.edge → P e
