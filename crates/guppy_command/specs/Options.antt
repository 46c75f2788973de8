-- What is asked of every command: which links count, and how an answer is shown.
use Rattle.std.specs.Prelude.{ℕ, ◌==◌, Bool, ◌&&◌, ◌||◌, List, Option, Some, None, is_some, codes, if◌then◌else◌}
use Rattle.std.specs.List.{list_all, list_any, filter, slice_split}
use Rattle.std.specs.Str.{byte, bytes_eq}
use Rattle.guppy_data.specs.declared.records.LinkRecord.{LinkRecord}
use Rattle.guppy_platforms.specs.Counting.{is_asked_for}
use Rattle.guppy_command.specs.declared.options.Kinds.{Kinds}
use Rattle.guppy_command.specs.declared.options.OutputFormat.{OutputFormat}
use Rattle.guppy_command.specs.declared.options.OutputFormat.TheVariants.{Lines, Flags, Json}
use Rattle.guppy_command.specs.Text.{section_of}

-- the link has a section of one of these kinds: it is asked for in it, required or optional, on some platform
abbrev pub is_of : Kinds → LinkRecord → Bool
is_of kinds r = (kinds.normal && is_asked_for r.normal) || (kinds.build && is_asked_for r.build)
    || (kinds.dev && is_asked_for r.dev)

-- the links with a section of these kinds; all links, where none are named
abbrev pub kept_links : Option Kinds → List LinkRecord → List LinkRecord
kept_links None links = links
kept_links (Some kinds) links = filter (is_of kinds) links

abbrev pub is_kind : List ℕ → Bool
is_kind word = is_some (section_of word)

-- what stands before, between and after the commas
abbrev pub names_in : List ℕ → List (List ℕ)
names_in word = slice_split (λ b. b == byte ",") word

-- the name is one of those in the word
abbrev pub names_kind : List ℕ → List ℕ → Bool
names_kind word name = list_any (λ other. bytes_eq other name) (names_in word)

-- the kinds that the word names, where it names nothing else
abbrev pub kinds_of : List ℕ → Option Kinds
kinds_of word = if list_all is_kind (names_in word) then Some (record {
  normal = names_kind word (codes "normal");
  build = names_kind word (codes "build");
  dev = names_kind word (codes "dev");
}) else None

-- the format that the word names
abbrev pub format_of : List ℕ → Option OutputFormat
format_of word = if bytes_eq word (codes "lines") then Some Lines
    else (if bytes_eq word (codes "flags") then Some Flags
    else (if bytes_eq word (codes "json") then Some Json else None))
