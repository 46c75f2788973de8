-- Why arguments ask nothing, as it is told.
use Rattle.std.specs.Prelude.{◌≡◌, ℕ, ◌+◌, true, false, List, [], ◌++◌, Option, Some, None, IfSome, MatchOption, String, codes, string_bytes, if◌then◌else◌}
use Rattle.std.specs.Str.{bytes_eq}
use Rattle.std.specs.declared.alloc.Global.{Global}
use Rattle.std.specs.Fmt.{decimal}
use Rattle.guppy_data.specs.declared.texts.error.Error.TheVariants.{OutOfMemory}
use Rattle.guppy_process.specs.declared.fault.Fault.TheVariants.{Library}
use Rattle.guppy_command.specs.Grammar.{Misread, no_option, no_value, needless_value, repeated, not_taken, no_command, unknown_command, bad_words, bad_kinds, bad_resolver, bad_format, no_flags, lone_platform, lone_host, all_ignored, no_paths, cfgs_failed, bad_cfg, paths_failed, unended_paths, bad_also, before_failed}
use Rattle.guppy_command.specs.declared.table.TheConstants.{FORMAT}
use Rattle.guppy_command.specs.Asked.{IsMisread}
use Rattle.guppy_arguments.specs.declared.fault.CargoFault.{CargoFault}
use Rattle.guppy_arguments.specs.declared.fault.CargoFault.TheVariants.{Program, Arguments}
use Rattle.guppy_arguments.specs.declared.told.ArgumentsFault.{ArgumentsFault}
use Rattle.guppy_arguments.specs.declared.told.ArgumentsFault.TheVariants.{NoOption, NoValue, NeedlessValue, Repeated, NotTaken, NoCommand, UnknownCommand, BadWords, BadKinds, BadResolver, BadFormat, NoFlags, LonePlatform, LoneHost, AllIgnored, NoPaths, CfgsFailed, BadCfg, PathsFailed, UnendedPaths, OfScripts, BadAlso, BeforeFailed}
use Rattle.guppy_arguments.specs.Nearest.{IsFar, IsNearest}
use Rattle.guppy_arguments.specs.Scripts.{all_names, is_of_scripts}
use Rattle.guppy_arguments.specs.Table.{cargo_program, command_names, usage_of}

abbrev pub misread_of : ArgumentsFault → Misread
misread_of (NoOption word nearest) = no_option (string_bytes word)
misread_of (OfScripts word nearest) = no_option (string_bytes word)
misread_of (NoValue name) = no_value (string_bytes name)
misread_of (NeedlessValue name) = needless_value (string_bytes name)
misread_of (Repeated name) = repeated (string_bytes name)
misread_of (NotTaken command name) = not_taken (string_bytes command) (string_bytes name)
misread_of NoCommand = no_command
misread_of (UnknownCommand word nearest) = unknown_command (string_bytes word)
misread_of (BadWords command) = bad_words (string_bytes command)
misread_of (BadKinds value) = bad_kinds (string_bytes value)
misread_of (BadResolver value) = bad_resolver (string_bytes value)
misread_of (BadFormat value) = bad_format (string_bytes value)
misread_of (NoFlags command) = no_flags (string_bytes command)
misread_of LonePlatform = lone_platform
misread_of LoneHost = lone_host
misread_of (AllIgnored folder) = all_ignored (string_bytes folder)
misread_of (BadAlso text) = bad_also (string_bytes text)
misread_of NoPaths = no_paths
misread_of (CfgsFailed file) = cfgs_failed (string_bytes file)
misread_of (BadCfg triple before) = bad_cfg (string_bytes triple) before
misread_of (PathsFailed file) = paths_failed (string_bytes file)
misread_of (UnendedPaths file) = unended_paths (string_bytes file)
misread_of (BeforeFailed file) = before_failed (string_bytes file)

-- it is the nearest of the names to the word, or none is near
abbrev pub IsNearestIfAny : List (List ℕ) → List ℕ → Option (String Global) → Type 0
IsNearestIfAny names word nearest =
    MatchOption nearest (IsFar word names) (λ name. IsNearest word names (string_bytes name))

-- it is an option of the program
abbrev pub IsOwn : String Global → Type 0
IsOwn name = is_of_scripts (string_bytes name) ≡ false

-- the nearest option or command is told with a word that is none, and whether that is an option of the scripts
abbrev pub HasNearest : ArgumentsFault → Type 0
HasNearest (NoOption word nearest) = IsNearestIfAny all_names (string_bytes word) nearest × IfSome nearest IsOwn
HasNearest (OfScripts word nearest) =
    IsNearest (string_bytes word) all_names (string_bytes nearest) × (is_of_scripts (string_bytes nearest) ≡ true)
HasNearest (UnknownCommand word nearest) = IsNearestIfAny command_names (string_bytes word) nearest
HasNearest _ = Unit {0}

-- the fault tells why the arguments ask nothing, or memory ran out
abbrev pub Tells : (List ℕ → List ℕ → Type 0) → List (List ℕ) → CargoFault → Type 0
Tells has args (Arguments fault) = IsMisread has cargo_program args (misread_of fault) × HasNearest fault
Tells has args (Program fault) = fault ≡ Library OutOfMemory
Tells has args _ = ⊥

-- what to give in place of a word that is none
abbrev pub hint : Option (String Global) → List ℕ
hint (Some nearest) = codes "the nearest is " ++ string_bytes nearest
hint None = codes "guppy-cargo help lists them"

-- of the format, which commands take it
abbrev pub takers_of : List ℕ → List ℕ
takers_of name = if bytes_eq name FORMAT.now then codes ": all commands but depends, verify and dot do" else []

abbrev pub arguments_text : ArgumentsFault → List ℕ
arguments_text (NoOption word nearest) = string_bytes word ++ (codes " is no option: " ++ hint nearest)
arguments_text (OfScripts word nearest) =
    string_bytes word ++ (codes " is no option of the program: the nearest is "
    ++ (string_bytes nearest ++ codes ", of the scripts"))
arguments_text (NoValue name) = codes "a value is missing behind " ++ string_bytes name
arguments_text (NeedlessValue name) = string_bytes name ++ codes " takes no value"
arguments_text (Repeated name) = string_bytes name ++ codes " is given twice"
arguments_text (NotTaken command name) =
    string_bytes command ++ (codes " takes no " ++ (string_bytes name ++ takers_of (string_bytes name)))
arguments_text NoCommand = codes "give a command: guppy-cargo help lists them"
arguments_text (UnknownCommand word nearest) = string_bytes word ++ (codes " is no command: " ++ hint nearest)
arguments_text (BadWords command) =
    string_bytes command ++ (codes " takes other words: give " ++ usage_of (string_bytes command))
arguments_text (BadKinds value) =
    string_bytes value ++ codes " is no kind: give some of normal,build,dev, separated by commas"
arguments_text (BadResolver value) = string_bytes value ++ codes " is no resolver: give 1, 2 or 3"
arguments_text (BadFormat value) = string_bytes value ++ codes " is no format: give lines, flags or json"
arguments_text (NoFlags command) = string_bytes command ++ codes " takes --format lines or json, not flags"
arguments_text LonePlatform = codes "give --cfgs FILE behind each --platform TRIPLE"
arguments_text LoneHost = codes "give both --host TRIPLE and --host-cfgs FILE"
arguments_text (AllIgnored folder) =
    codes "--ignore " ++ (string_bytes folder ++ codes " leaves out everything: give a folder")
arguments_text (BadAlso text) =
    string_bytes text ++ codes " is no folder of a package: give --also FOLDER=PACKAGE"
arguments_text NoPaths = codes "affected needs a path, --paths-from FILE or, of the scripts, --since REVISION"
arguments_text (CfgsFailed file) = string_bytes file ++ codes ": the cfgs in it can't be read"
arguments_text (BadCfg triple before) = string_bytes triple ++ (codes ": line " ++ (decimal (before + 1)
    ++ codes " of its cfgs is neither a name nor a key with a value"))
arguments_text (PathsFailed file) = string_bytes file ++ codes ": the paths in it can't be read"
arguments_text (UnendedPaths file) =
    string_bytes file ++ codes ": its paths aren't each ended by a NUL: give it what git writes with -z"
arguments_text (BeforeFailed file) = string_bytes file ++ codes ": the state before can't be read"
