-- How an answer is printed.
use Rattle.std.specs.Prelude.{◌≡◌, ◌↔◌, ℕ, List, [], ◌∷◌, map, Contains, codes, if◌then◌else◌}
use Rattle.std.specs.List.Sorted.{IsStrictlySortedBy}
use Rattle.std.specs.Ordering.{nat_cmp}
use Rattle.std.specs.Cmp.Lexicographic.{slice_cmp}
use Rattle.json.specs.Json.{Json}
use Rattle.guppy_command.specs.declared.options.Kinds.{Kinds}
use Rattle.guppy_command.specs.declared.options.Options.{Options}
use Rattle.guppy_command.specs.declared.options.OutputFormat.{OutputFormat}
use Rattle.guppy_command.specs.declared.options.OutputFormat.TheVariants.{Lines, Flags, Json as InJson}
use Rattle.guppy_data.specs.declared.records.PackageRecord.{PackageRecord}
use Rattle.guppy_print.specs.Answer.{Answer, package_set, package_list, package_links, package_rows, package_needs, package_steps, built_rows, reasons, feature_rows, truth, all_well, drawing}
use Rattle.guppy_dot.specs.DotText.{dot_text}
use Rattle.guppy_print.specs.BuildLines.{feature_text, row_text, step_text}
use Rattle.guppy_print.specs.Flags.{flag_of}
use Rattle.guppy_print.specs.Objects.{array_of, json_text, link_object, needs_object, packages_array, step_object}
use Rattle.guppy_print.specs.ObjectsOfBuilds.{built_object, feature_object, reason_object}
use Rattle.guppy_print.specs.Format.{Format}
use Rattle.guppy_command.specs.Printed.{newline, line_end, line_of, lines_of, joined, truth_line, kind_names}

-- strictly ascending by bytes
abbrev pub IsAscending : List (List ℕ) → Type 0
IsAscending = IsStrictlySortedBy (slice_cmp nat_cmp)

-- these texts, each once, in the order of their bytes, one a line with this end
pub record AreSortedLines (end : List ℕ) (texts : List (List ℕ)) (output : List ℕ) : Type 0 where
  pub sorted : List (List ℕ)
  pub ascending : IsAscending sorted
  pub same : (text : List ℕ) → Contains sorted text ↔ Contains texts text
  pub printed : output ≡ lines_of end sorted

-- what a package is called: by its ID, or as `text` tells
abbrev pub called : Options → (List ℕ → List ℕ) → List ℕ → List ℕ
called options text id = if options.by_id then id else text id

-- the packages with these IDs, each once, in the order of the IDs' bytes, as an array on a line with this end
pub record AreSortedObjects (end : List ℕ) (packages : List PackageRecord) (ids : List (List ℕ))
    (output : List ℕ) : Type 0 where
  pub sorted : List (List ℕ)
  pub ascending : IsAscending sorted
  pub same : (id : List ℕ) → Contains sorted id ↔ Contains ids id
  pub printed : output ≡ line_of end (json_text (packages_array packages sorted))

-- what the packages are called that the link goes from and to
abbrev pub link_text : (List ℕ → List ℕ) → List ℕ × List ℕ × Kinds → List ℕ
link_text text link = joined (text link.0 ∷ text link.1 ∷ [])

-- what the packages of the row are called
abbrev pub packages_text : (List ℕ → List ℕ) → List (List ℕ) → List ℕ
packages_text text ids = joined (map text ids)

-- what the package of a walk is called, and the kinds of the link that leads to it
abbrev pub walk_text : (List ℕ → List ℕ) → List ℕ × Kinds → List ℕ
walk_text text step = joined (text step.0 ∷ kind_names step.1)

-- of these packages
module _ {Fault : Type 0} (format : Format Fault) (options : Options) (packages : List PackageRecord) where
  -- what they are called
  abbrev pub call : List ℕ → List ℕ
  call = called options (format.text packages)

  -- these texts, one a line
  abbrev pub on_lines : List (List ℕ) → List ℕ
  on_lines texts = lines_of (line_end options) texts

  -- the value, on a line
  abbrev pub as_json : Json → List ℕ
  as_json value = line_of (line_end options) (json_text value)

  -- a set in this format: what its packages are called or their flags, one a line, or an array of them
  abbrev pub IsSetIn : OutputFormat → List (List ℕ) → List ℕ → Type 0
  IsSetIn Lines ids output = AreSortedLines (line_end options) (map call ids) output
  IsSetIn Flags ids output = AreSortedLines (line_end options) (map (flag_of format options packages) ids) output
  IsSetIn InJson ids output = AreSortedObjects (line_end options) packages ids output

  -- a list in this format
  abbrev pub list_in : OutputFormat → List (List ℕ) → List ℕ
  list_in Lines ids = on_lines (map call ids)
  list_in Flags ids = on_lines (map (flag_of format options packages) ids)
  list_in InJson ids = as_json (packages_array packages ids)

  -- as JSON this value, and else these lines
  abbrev pub told_in : OutputFormat → Json → List (List ℕ) → List ℕ
  told_in InJson value texts = as_json value
  told_in format value texts = on_lines texts

  -- the output is the answer, in the format of the options: as JSON an array, and else what is a list an item a line
  abbrev pub IsPrinted : Answer → List ℕ → Type 0
  IsPrinted (package_set ids) output = IsSetIn options.format ids output
  IsPrinted (package_list ids) output = output ≡ list_in options.format ids
  IsPrinted (package_links links) output = output ≡ told_in options.format
      (array_of (link_object packages) links) (map (link_text call) links)
  IsPrinted (package_rows rows) output = output ≡ told_in options.format
      (array_of (packages_array packages) rows) (map (packages_text call) rows)
  IsPrinted (package_needs rows) output = output ≡ told_in options.format
      (array_of (needs_object packages) rows) (map (packages_text call) rows)
  IsPrinted (package_steps steps) output = output ≡ told_in options.format
      (array_of (step_object packages) steps) (map (walk_text call) steps)
  IsPrinted (built_rows rows) output = output ≡ told_in options.format
      (array_of (built_object packages) rows) (map (row_text call) rows)
  IsPrinted (reasons steps) output = output ≡ told_in options.format
      (array_of (reason_object packages) steps) (map (step_text call) steps)
  IsPrinted (feature_rows rows) output = output ≡ told_in options.format
      (array_of (feature_object packages) rows) (map (feature_text call) rows)
  IsPrinted (truth holds) output = output ≡ truth_line holds
  IsPrinted all_well output = output ≡ line_of newline (codes "ok")
  IsPrinted (drawing drawn) output = output ≡ dot_text call drawn
