-- The dependencies of a package: of each section of each link that leaves it the required and the optional part.
use Rattle.std.specs.Prelude.{◌≡◌, ◌==◌, ℕ, ◌<◌, Bool, true, false, List, [], ◌∷◌, ◌++◌, map, filter}
use Rattle.std.specs.List.{flat_map}
use Rattle.std.specs.String.{string_bytes}
use Rattle.guppy_search.specs.declared.graph_core.link.Link.{Link}
use Rattle.guppy_data.specs.declared.texts.dependency_kind.DependencyKind.{DependencyKind}
use Rattle.guppy_data.specs.declared.texts.dependency_kind.DependencyKind.TheVariants.{Normal, Development, Build}
use Rattle.guppy_data.specs.declared.records.DependencyReqImpl.{DependencyReqImpl}
use Rattle.guppy_data.specs.declared.records.DepRequiredOrOptional.{DepRequiredOrOptional}
use Rattle.guppy_data.specs.declared.records.LinkRecord.{LinkRecord}
use Rattle.guppy_graph.specs.Graph.{GraphData}
use Rattle.guppy_graph.specs.Sections.{section_of}
use Rattle.guppy_features.specs.declared.dependencies.Dependency.{Dependency}

-- a dependency: its ends, its name in the manifest, its section, whether it is optional, and what is asked for where
pub record DependencyData : Type 0 where
  pub from : ℕ
  pub to : ℕ
  pub name : List ℕ
  pub section : DependencyKind
  pub is_optional : Bool
  pub part : DepRequiredOrOptional

abbrev pub seen_dependency : Dependency → DependencyData
seen_dependency d = record {
  from = d.from;
  to = d.to;
  name = d.name.now;
  section = d.section;
  is_optional = d.is_optional;
  part = d.part.now;
}

-- both ends are positions below n
abbrev pub IsWithin : ℕ → Dependency → Type 0
IsWithin n d = (d.from < n) × (d.to < n)

-- the part of the section that is optional, or the one that is required
abbrev pub part_of : DependencyReqImpl → Bool → DepRequiredOrOptional
part_of req true = req.optional
part_of req false = req.required

-- of a section of the link that dependency
abbrev pub dependency : Link LinkRecord → DependencyKind → Bool → DependencyData
dependency l section is_optional = record {
  from = l.from;
  to = l.to;
  name = string_bytes l.edge.dep_name;
  section = section;
  is_optional = is_optional;
  part = part_of (section_of section l.edge) is_optional;
}

abbrev pub section_dependencies : Link LinkRecord → DependencyKind → List DependencyData
section_dependencies l section = dependency l section false ∷ dependency l section true ∷ []

-- the link's six
abbrev pub dependencies_of : Link LinkRecord → List DependencyData
dependencies_of l = section_dependencies l Normal ++ section_dependencies l Build
    ++ section_dependencies l Development

-- the links that leave the package, ascending by number
abbrev pub links_from : GraphData → ℕ → List (Link LinkRecord)
links_from g p = filter (λ l. l.from == p) g.links

-- the package's: those of the links that leave it, one link after the other
abbrev pub dependencies : GraphData → ℕ → List DependencyData
dependencies g p = flat_map dependencies_of (links_from g p)

-- the list has the package's dependencies
abbrev pub AreOf : GraphData → ℕ → List Dependency → Type 0
AreOf g p list = map seen_dependency list ≡ dependencies g p
