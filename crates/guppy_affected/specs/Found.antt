-- Which folders are those of the packages of this machine.
use Rattle.std.specs.Prelude.{◌≡◌, ◌↔◌, ℕ, List, Contains, IsSomeAnd}
use Rattle.guppy_data.specs.Path.{Part, components}
use Rattle.guppy_data.specs.declared.records.PackageRecord.{PackageRecord}
use Rattle.guppy_affected.specs.Folders.{folder_at}

-- the folder is that of a package of this machine
abbrev pub IsFolder : List PackageRecord → List Part → Type 0
IsFolder packages folder =
    (p : ℕ) × IsSomeAnd (folder_at packages p) (λ own. components own ≡ folder)

-- exactly the folders of the packages of this machine
abbrev pub AreFolders : List PackageRecord → List (List Part) → Type 0
AreFolders packages folders = (folder : List Part) → Contains folders folder ↔ IsFolder packages folder
