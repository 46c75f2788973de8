use Rattle.std.proofs.Common.{ℕ, List, [], filter, take}
use Rattle.guppy_metadata.specs.declared.types.Declared.{Declared}
use Rattle.guppy_metadata.specs.Fits.{fits}
use Rattle.guppy_metadata.specs.Gathered.{IsGathered, IsNamedAs}
use Rattle.guppy_metadata.specs.Links.{Joins}
use Rattle.guppy_metadata.proofs.gathered.add_fitting.Given as goal

abbrev pub invariant-loop-index : goal.invariant-loop-index
invariant-loop-index l = ((one other name : List ℕ) → Joins one other name l.fn.link → Joins one other name l.link)
    × ((first : Declared) → IsNamedAs first l.fn.link → IsNamedAs first l.link)
    × (IsGathered [] l.fn.link → IsGathered (filter (fits l.wanted.asking.now l.wanted.resolved.now l.wanted.needed.now) (take l.index l.declared)) l.link)
