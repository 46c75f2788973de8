-- Which members of a workspace declare which others, in the JSON that Cargo prints.
use Rattle.std.specs.Prelude.{◌≡◌, ◌≢◌, ℕ, List, [], ◌∷◌, ◌++◌, Option, Some, Contains, option_and_then, codes}
use Rattle.json.specs.Json.{Json, Items, no_items, item, array, string}
use Rattle.json.specs.Find.{get, as_str}

-- the text in the member of this name
abbrev pub text_in : List ℕ → Json → Option (List ℕ)
text_in name d = option_and_then as_str (get name d)

-- the items of a list
abbrev pub all_of : Items → List Json
all_of no_items = []
all_of (item d ds) = d ∷ all_of ds

abbrev pub listed : Option Json → List Json
listed (Some (array ds)) = all_of ds
listed _ = []

-- the items of the list in the member of this name, or none
abbrev pub items_in : List ℕ → Json → List Json
items_in name d = listed (get name d)

-- one of the items of the list in the member of this name
abbrev pub HasItem : List ℕ → Json → Json → Type 0
HasItem name d x = Contains (items_in name d) x

-- this is the package that is a member of the workspace, and has the ID
pub record IsMember (d member : Json) (id : List ℕ) : Type 0 where
  pub told : HasItem (codes "packages") d member
  pub id_is : text_in (codes "id") member ≡ Some id
  pub listed : HasItem (codes "workspace_members") d (string id)

-- the dependency is asked for in a normal or a build section, by this path
pub record AsksForPath (dependency : Json) (path : List ℕ) : Type 0 where
  pub section : text_in (codes "kind") dependency ≢ Some (codes "dev")
  pub path_is : text_in (codes "path") dependency ≡ Some path

-- the package's manifest lies in the folder
abbrev pub LiesIn : Json → List ℕ → Type 0
LiesIn member folder = text_in (codes "manifest_path") member ≡ Some (folder ++ codes "/Cargo.toml")

-- a dependency that the one package declares, in a normal or a build section, is the other one, by its folder
pub record AsksFor (member other : Json) : Type 0 where
  pub dependency : Json
  pub folder : List ℕ
  pub told : HasItem (codes "dependencies") member dependency
  pub asks : AsksForPath dependency folder
  pub lies : LiesIn other folder

-- the member with the one ID declares the member with the other one
pub record Declares (d : Json) (from to : List ℕ) : Type 0 where
  pub member : Json
  pub other : Json
  pub is_from : IsMember d member from
  pub is_to : IsMember d other to
  pub asks : AsksFor member other
