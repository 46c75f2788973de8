-- Why parts make no graph.
use Rattle.std.specs.Prelude.{ℕ, ◌<◌, ◌≤◌, List, length, All}
use Rattle.guppy_search.specs.declared.graph_core.graph.GraphFault.{GraphFault}
use Rattle.guppy_search.specs.declared.graph_core.graph.GraphFault.TheVariants.{TooManyNodes, TooManyLinks, UnknownEnd, RepeatedLink, OutOfMemory}
use Rattle.guppy_search.specs.declared.graph_core.link.Link.{Link}
use Rattle.guppy_search.specs.Links.{EndsBelow}
use Rattle.guppy_search.specs.Pairs.{IsFirstRepeat, IsFirstUnknown}

-- the parts have this fault, and none that comes before it
abbrev pub IsFault : {E : Type 0} → ℕ → List (Link E) → GraphFault → Type 0
IsFault n links TooManyNodes = 4294967295 < n
IsFault n links TooManyLinks = (n ≤ 4294967295) × (4294967295 < length links)
IsFault n links (UnknownEnd k) =
    (n ≤ 4294967295) × (length links ≤ 4294967295) × IsFirstUnknown n links k
IsFault n links (RepeatedLink k) =
    (n ≤ 4294967295) × (length links ≤ 4294967295) × All (EndsBelow n) links × IsFirstRepeat links k
IsFault n links OutOfMemory = Unit {0}
