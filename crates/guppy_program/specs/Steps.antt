-- The packages that a walk of links leads through.
use Rattle.std.specs.Prelude.{◌≡◌, ℕ, false, not, List, ◌∷◌, length, slice_get, IsSomeAnd}
use Rattle.std.specs.List.{AllZip}
use Rattle.guppy_data.specs.declared.records.LinkRecord.{LinkRecord}
use Rattle.guppy_graph.specs.DevOnly.{is_absent}
use Rattle.guppy_graph.specs.Graph.{GraphData}
use Rattle.guppy_graph.specs.Ids.{HasId}
use Rattle.guppy_extras.specs.Walk.{IsWalk, NoneShorter, Between}
use Rattle.guppy_command.specs.declared.options.Kinds.{Kinds}

-- the kinds of the sections that the link has
abbrev pub section_kinds : LinkRecord → Kinds
section_kinds r = record {
  normal = not (is_absent r.normal);
  build = not (is_absent r.build);
  dev = not (is_absent r.dev);
}

abbrev pub no_kinds : Kinds
no_kinds = record { normal = false; build = false; dev = false }

-- the link with the number leads to the package with the ID, and has sections of these kinds
abbrev pub LeadsTo : GraphData → ℕ → List ℕ × Kinds → Type 0
LeadsTo g number step = IsSomeAnd (slice_get g.links number)
    (λ l. HasId g.packages step.0 l.to × (step.1 ≡ section_kinds l.edge))

-- these are the package with the ID, with no kinds, and those that the links of the walk lead to
pub record AreStepsAlong (g : GraphData) (from : List ℕ) (walk : List ℕ)
    (steps : List (List ℕ × Kinds)) : Type 0 where
  pub behind : List (List ℕ × Kinds)
  pub led : AllZip (LeadsTo g) walk behind
  pub steps_are : steps ≡ (from, no_kinds) ∷ behind

-- these are the packages of a shortest walk from the one to the other
pub record AreSteps (g : GraphData) (from to : List ℕ) (steps : List (List ℕ × Kinds)) : Type 0 where
  pub walk : List ℕ
  pub is_walk : Between g from to (λ p q. IsWalk g.links p q walk)
  pub shortest : Between g from to (λ p q. NoneShorter g.links p q (length walk))
  pub along : AreStepsAlong g from walk steps
