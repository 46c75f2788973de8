-- Records as one text.
use Rattle.std.specs.Prelude.{◌≡◌, ◌≤◌, ℕ, false, List, ◌++◌, Some, string_bytes}
use Rattle.std.specs.List.{AllZip, flat_map}
use Rattle.json.specs.Lex.{tokens}
use Rattle.json.specs.Print.{print}
use Rattle.serde_json.specs.Data.{Data, depth}
use Rattle.serde_json.specs.Read.{read, max_depth}
use Rattle.serde_json.specs.View.{view}
use Rattle.serde_json.specs.Written.{IsInOrder, compact_text, has_float}
use Rattle.guppy_data.specs.declared.records.LinkRecord.{LinkRecord}
use Rattle.guppy_data.specs.declared.records.PackageRecord.{PackageRecord}
use Rattle.guppy_data.specs.declared.records.WorkspaceRecord.{WorkspaceRecord}
use Rattle.guppy_wire.specs.declared.details.DetailTexts.{DetailTexts}
use Rattle.guppy_wire.specs.declared.text.RecordsText.{RecordsText}
use Rattle.guppy_wire.specs.Parts.{field, optional, listed}
use Rattle.guppy_wire.specs.Package.{package_details, package_text}
use Rattle.guppy_wire.specs.Link.{link_text}

-- the root, the target directory, the build directory, and the default members
abbrev pub workspace_text : WorkspaceRecord → List ℕ
workspace_text r = field r.root ++ field r.target_directory ++ optional field r.build_directory
    ++ listed field r.default_members.items

-- the text is JSON of the table with no space between its tokens, which reads back; what it has of floats is not told
pub record IsTableText (text : List ℕ) (table : Data) : Type 0 where
  pub exact : has_float table ≡ false → text ≡ compact_text table
  pub compact : text ≡ print (tokens text)
  pub in_order : IsInOrder text table
  pub reads_back : depth table ≤ max_depth → read text ≡ Some table

-- the text is the details of a package and its free table, a field each
pub record AreDetails (r : PackageRecord) (text : List ℕ) : Type 0 where
  pub table : List ℕ
  pub table_is : IsTableText table (view r.metadata_table)
  pub text_is : text ≡ field (package_details r) ++ field table

-- the text is those of the packages, one behind the other
pub record AreAllDetails (packages : List PackageRecord) (text : List ℕ) : Type 0 where
  pub texts : List (List ℕ)
  pub texts_are : AllZip AreDetails packages texts
  pub text_is : text ≡ flat_map (λ own. own) texts

-- the texts are the details of the packages that were shown
abbrev pub HasDetails : DetailTexts → List PackageRecord → List PackageRecord → Type 0
HasDetails texts shown left = AreAllDetails shown (string_bytes texts.texts)

-- the workspace and its free table, the packages, the links, and the details of the packages
abbrev pub records_text : List PackageRecord → List LinkRecord → WorkspaceRecord → List ℕ → List ℕ → List ℕ
records_text packages links workspace table details = workspace_text workspace ++ field table
    ++ listed package_text packages ++ listed link_text links ++ details

-- the text is that of the records
pub record AreTold (packages : List PackageRecord) (links : List LinkRecord) (workspace : WorkspaceRecord) (text : List ℕ) : Type 0 where
  pub table : List ℕ
  pub details : List ℕ
  pub table_is : IsTableText table (view workspace.metadata_table)
  pub details_are : AreAllDetails packages details
  pub text_is : text ≡ records_text packages links workspace table details

-- the text of the three parts
abbrev pub text_in : RecordsText → List ℕ
text_in text = string_bytes text.front ++ string_bytes text.links ++ string_bytes text.details
