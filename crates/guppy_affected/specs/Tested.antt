-- Sets of packages, by where links lead from them.
use Rattle.std.specs.Prelude.{◌≡◌, ◌⊎◌, ◌↔◌, ℕ, List}
use Rattle.guppy_search.specs.declared.ix.direction.DependencyDirection.TheVariants.{Forward}
use Rattle.guppy_search.specs.IxSet.{IsIn}
use Rattle.guppy_search.specs.Reach.{LinkStep, Walk}
use Rattle.guppy_graph.specs.Graph.{GraphData}
use Rattle.guppy_graph.specs.Ordered.{FirmStep}
use Rattle.guppy.specs.Query.{SetData}
use Rattle.guppy_affected.specs.Affected.{IsTestedWith}
use Rattle.guppy_affected.specs.Changed.{AreChanged}
use Rattle.guppy_affected.specs.Folders.{Given}
use Rattle.guppy_affected.specs.Named.{HasOneOf}

-- exactly the packages from which walks over links that aren't dev-only lead into the set
abbrev pub AreBuiltFrom : SetData → SetData → Type 0
AreBuiltFrom set built = (p : ℕ) → IsIn built.included p
    ↔ ((q : ℕ) × IsIn set.included q × Walk (FirmStep set.graph.links) p q)

-- exactly the packages of the set, and those from which a link of any kind leads into it
abbrev pub AreWithDependents : SetData → SetData → Type 0
AreWithDependents set both = (p : ℕ) → IsIn both.included p
    ↔ (IsIn set.included p
    ⊎ ((q : ℕ) × IsIn set.included q × LinkStep Forward set.graph.links p q))

-- exactly the packages that are tested with one of the set
abbrev pub AreTestedWith : SetData → SetData → Type 0
AreTestedWith set tested = (p : ℕ) → IsIn tested.included p
    ↔ ((q : ℕ) × IsIn set.included q × IsTestedWith set.graph p q)

-- exactly the packages that are tested with one that the paths touch, or with one of those with these IDs
abbrev pub AreTestedAfter : GraphData → List (List ℕ) → List (List ℕ) → List (List ℕ) → List Given → SetData → Type 0
AreTestedAfter g changed paths ignored also tested = (touched : SetData) × (both : SetData) × (both.graph ≡ g)
    × AreChanged g paths ignored also touched.included
    × ((p : ℕ) → IsIn both.included p ↔ (IsIn touched.included p ⊎ HasOneOf g.packages changed p))
    × AreTestedWith both tested
