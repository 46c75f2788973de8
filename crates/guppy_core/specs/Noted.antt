-- Notes of which links are kept, by the number of the link.
use Rattle.std.specs.Prelude.{◌≡◌, ℕ, Bool, true, List, Some, slice_get, slice_index_or}
use Rattle.guppy_search.specs.declared.graph_core.link.Link.{Link}

-- whether the link with this number is noted as kept; past the list's end each one is
abbrev pub note : List Bool → ℕ → Bool
note notes n = slice_index_or notes n true

-- each link is noted as kept where it is, and nowhere else
abbrev pub AreNoted : {E : Type 0} → (E → Bool) → List (Link E) → List Bool → Type 0
AreNoted {E} keep links notes =
    (n : ℕ) (l : Link E) → slice_get links n ≡ Some l → note notes n ≡ keep l.edge
