-- What arguments ask.
use Rattle.std.specs.Prelude.{◌≡◌, ◌⊎◌, ℕ, Contains, ◌==◌, Bool, true, false, not, ◌&&◌, ◌||◌, List, [], ◌∷◌, ◌++◌, length, map, Option, Some, None, is_some, IsSomeAnd, Result, Ok, Err, codes, if◌then◌else◌}
use Rattle.std.specs.List.{AllZip, filter_map, find, flat_map, list_any, zip}
use Rattle.std.specs.Option.{option_and_then, option_map_or}
use Rattle.std.specs.Str.{bytes_eq}
use Rattle.std.specs.Str.Lines.{lines}
use Rattle.guppy_data.specs.Platform.{Question, OnAny, OnPlatforms}
use Rattle.guppy_features.specs.declared.options.CargoResolverVersion.{CargoResolverVersion}
use Rattle.guppy_features.specs.declared.options.CargoResolverVersion.TheVariants.{V2}
use Rattle.guppy_features.specs.declared.options.StandardFeatures.{StandardFeatures}
use Rattle.guppy_features.specs.declared.options.StandardFeatures.TheVariants.{None as NoFeatures, Default, All}
use Rattle.guppy_target.specs.Platform.{PlatformData, IsFirstFault}
use Rattle.guppy_command.specs.declared.options.Kinds.{Kinds}
use Rattle.guppy_command.specs.declared.options.Options.{Options}
use Rattle.guppy_command.specs.declared.options.OutputFormat.{OutputFormat}
use Rattle.guppy_command.specs.declared.options.OutputFormat.TheVariants.{Lines, Flags, Json}
use Rattle.guppy_command.specs.declared.table.TheConstants.{KINDS, PLATFORM, CFGS, HOST, HOST_CFGS, WORKSPACE, IDS, NULL, FORMAT, PUBLISHABLE, IGNORE, PATHS_FROM, MEMBER, FEATURES, ALL_FEATURES, NO_DEFAULT_FEATURES, TESTS, RESOLVER, ALSO, BEFORE}
use Rattle.guppy_command.specs.Grammar.{OptionRow, Program, Argument, option, word, Misread, not_taken, repeated, no_command, unknown_command, bad_words, bad_kinds, bad_resolver, bad_format, no_flags, lone_platform, lone_host, all_ignored, no_paths, cfgs_failed, bad_cfg, paths_failed, unended_paths, called, Reads, bad_also, name_in, value_in, before_failed}
use Rattle.guppy_command.specs.Builds.{features_of, resolver_of}
use Rattle.guppy_command.specs.Command.{BuildRequest, Command, affected, build_command_of, command_of, from_root}
use Rattle.guppy_command.specs.Options.{format_of, kinds_of}
use Rattle.guppy_command.specs.Paths.{are_ended, paths_of}
use Rattle.guppy_command.specs.Platforms.{IsPlatform}
use Rattle.guppy_command.specs.Text.{is_empty}

-- what is asked of every command, the platforms by their names, each with the file that says what is set there, so
-- the host, where it is named, the command, the files that have more paths, that of the state before, and the resolver
-- by which the states are compared
pub record Wanted : Type 0 where
  pub options : Options
  pub platforms : List (List ℕ × List ℕ)
  pub host : List (List ℕ × List ℕ)
  pub command : Command
  pub path_files : List (List ℕ)
  pub before : List (List ℕ)
  pub resolver : CargoResolverVersion

-- what is asked of every command, the platforms on which links count, the host, the command, and the input of the state
-- before, where there is one, with the resolver by which the states are compared
pub record Asked : Type 0 where
  pub options : Options
  pub question : Question PlatformData
  pub host : Question PlatformData
  pub command : Command
  pub before : Option (List ℕ)
  pub resolver : CargoResolverVersion

infixl 10 ◌>>=◌
abbrev pub ◌>>=◌ : {A B : Type 0} → Result A Misread → (A → Result B Misread) → Result B Misread
Ok x >>= f = f x
Err misread >>= f = Err misread

-- a word that is no option and no value
abbrev pub word_of : Argument → Option (List ℕ)
word_of (option name value) = None
word_of (word text) = Some text

-- the value of the option
abbrev pub value_for : List ℕ → Argument → Option (List ℕ)
value_for name (option other value) = if bytes_eq other name then value else None
value_for name (word text) = None

abbrev pub picked : Option (List ℕ) → Argument → Option (List ℕ)
picked None argument = word_of argument
picked (Some name) argument = value_for name argument

-- the words that are no option and no value
abbrev pub words_in : List Argument → List (List ℕ)
words_in given = filter_map (picked None) given

-- the values of the option
abbrev pub values_of : List ℕ → List Argument → List (List ℕ)
values_of name given = filter_map (picked (Some name)) given

-- the option is given
abbrev pub is_option : List ℕ → Argument → Bool
is_option name (option other value) = bytes_eq other name
is_option name (word text) = false

abbrev pub has : List ℕ → List Argument → Bool
has name given = list_any (is_option name) given

-- a word is one of these
abbrev pub is_among : List (List ℕ) → List ℕ → Bool
is_among names text = list_any (λ name. bytes_eq name text) names

-- the command, which comes first, and the words behind it
abbrev pub command_in : Program → List (List ℕ) → Result (List ℕ × List (List ℕ)) Misread
command_in p [] = Err no_command
command_in p (text ∷ words) = if is_among p.commands text then Ok (text, words) else Err (unknown_command text)

-- the command takes the option
abbrev pub takes : List OptionRow → List ℕ → List ℕ → Bool
takes options command name = option_map_or
    (λ row. option_map_or (λ commands. is_among commands command) row.commands true) (called options name) false

-- the option may come again
abbrev pub may_repeat : List OptionRow → List ℕ → Bool
may_repeat options name = option_map_or (λ row. row.repeats) (called options name) false

-- an option is one that the command takes, and comes again behind it only if it may
abbrev pub judged : List OptionRow → List ℕ → Argument → List Argument → Result (Unit {0}) Misread
judged options command (option name value) behind = if not (takes options command name)
    then Err (not_taken command name)
    else (if has name behind && not (may_repeat options name) then Err (repeated name) else Ok tt)
judged options command (word text) behind = Ok tt

-- each option is so, or why the first isn't
abbrev pub all_judged : List OptionRow → List ℕ → List Argument → Result (Unit {0}) Misread
all_judged options command [] = Ok tt
all_judged options command (argument ∷ behind) =
    judged options command argument behind >>= λ _. all_judged options command behind

-- the kinds that are named, where any are
abbrev pub kinds_in : List (List ℕ) → Result (Option Kinds) Misread
kinds_in [] = Ok None
kinds_in (value ∷ values) = option_map_or (λ kinds. Ok (Some kinds)) (kinds_of value) (Err (bad_kinds value))

-- the values of the one option, each with that of the other at the same place, where there are as many of both
abbrev pub pairs_in : List ℕ → List ℕ → List Argument → Option (List (List ℕ × List ℕ))
pairs_in name other given = if length (values_of name given) == length (values_of other given)
    then Some (zip (values_of name given) (values_of other given)) else None

-- the platforms, each with its file
abbrev pub platforms_in : List Argument → Result (List (List ℕ × List ℕ)) Misread
platforms_in given = option_map_or (λ pairs. Ok pairs) (pairs_in PLATFORM.now CFGS.now given) (Err lone_platform)

-- the host with its file, where it is named
abbrev pub host_in : List Argument → Result (List (List ℕ × List ℕ)) Misread
host_in given = option_map_or (λ pairs. Ok pairs) (pairs_in HOST.now HOST_CFGS.now given) (Err lone_host)

-- the format that is named, or lines
abbrev pub format_in : List (List ℕ) → Result OutputFormat Misread
format_in [] = Ok Lines
format_in (value ∷ values) = option_map_or (λ format. Ok format) (format_of value) (Err (bad_format value))

-- how an answer is shown, and of which links
abbrev pub options_in : List Argument → Result Options Misread
options_in given = kinds_in (values_of KINDS.now given) >>= λ kinds.
    format_in (values_of FORMAT.now given) >>= λ format. Ok (record {
      kinds = kinds;
      members_alone = has WORKSPACE.now given;
      by_id = has IDS.now given;
      nul_ended = has NULL.now given;
      format = format;
    })

-- the command's answer is packages alone
abbrev pub is_of_packages : List ℕ → Bool
is_of_packages command = is_among (codes "affected" ∷ codes "publish-order" ∷ codes "reach" ∷ codes "order"
    ∷ codes "roots" ∷ []) command

-- the command takes the format: flags tell of packages alone
abbrev pub suited : List ℕ → OutputFormat → Result (Unit {0}) Misread
suited command Lines = Ok tt
suited command Flags = if is_of_packages command then Ok tt else Err (no_flags command)
suited command Json = Ok tt

-- there are none
abbrev pub no_words : List (List ℕ) → Bool
no_words [] = true
no_words (text ∷ words) = false

-- the folder is the whole workspace
abbrev pub is_all : List ℕ → Bool
is_all folder = is_among ([] ∷ codes "." ∷ []) (from_root folder)

-- it is said what changed: by paths, by files that have some, or by the state before
abbrev pub says_changes : List Argument → List (List ℕ) → Bool
says_changes given paths = not (no_words paths) || (has PATHS_FROM.now given || has BEFORE.now given)

-- the folder and the package that the text names, parted by its first `=`
abbrev pub halves_of : List ℕ → Option (List ℕ × List ℕ)
halves_of text = option_and_then (λ owner. if is_empty (name_in text) || is_empty owner then None
    else Some (name_in text, owner)) (value_in text)

-- it names none
abbrev pub is_unparted : List ℕ → Bool
is_unparted text = not (is_some (halves_of text))

-- the folders that belong to packages beside their own, each with the word for its package
abbrev pub also_in : List Argument → Result (List (List ℕ × List ℕ)) Misread
also_in given = option_map_or (λ text. Err (bad_also text)) (find is_unparted (values_of ALSO.now given))
    (Ok (filter_map halves_of (values_of ALSO.now given)))

-- the folders to leave out
abbrev pub ignored_in : List Argument → Result (List (List ℕ)) Misread
ignored_in given = option_map_or (λ folder. Err (all_ignored folder)) (find is_all (values_of IGNORE.now given))
    (Ok (map from_root (values_of IGNORE.now given)))

-- the members that changes at these paths affect, with folders to leave out, and folders that belong to packages
abbrev pub affected_of : List Argument → List (List ℕ) → Result Command Misread
affected_of given paths = if not (says_changes given paths) then Err no_paths
    else (ignored_in given >>= λ ignored. also_in given >>= λ also.
    Ok (affected ignored also (map from_root paths)))

-- which features of the members beside those that are named
abbrev pub standard_in : List Argument → StandardFeatures
standard_in given = if has ALL_FEATURES.now given then All
    else (if has NO_DEFAULT_FEATURES.now given then NoFeatures else Default)

-- the resolver that is named, or the second
abbrev pub resolver_in : List (List ℕ) → Result CargoResolverVersion Misread
resolver_in [] = Ok V2
resolver_in (value ∷ values) =
    option_map_or (λ resolver. Ok resolver) (resolver_of value) (Err (bad_resolver value))

-- what Cargo is asked to build
abbrev pub request_in : List Argument → Result BuildRequest Misread
request_in given = resolver_in (values_of RESOLVER.now given) >>= λ resolver. Ok (record {
  members = values_of MEMBER.now given;
  features = flat_map features_of (values_of FEATURES.now given);
  standard = standard_in given;
  tests = has TESTS.now given;
  resolver = resolver;
})

-- the command asks what Cargo builds
abbrev pub is_of_builds : List ℕ → Bool
is_of_builds command = is_among (codes "built" ∷ codes "features" ∷ codes "why-feature" ∷ []) command

-- what such a command asks with these words behind it
abbrev pub asked_of_builds : List Argument → List ℕ → List (List ℕ) → Result Command Misread
asked_of_builds given command words = request_in given >>= λ request. option_map_or (λ asked. Ok asked)
    (build_command_of request command words) (Err (bad_words command))

-- what the command asks with these words behind it
abbrev pub asked_by : List Argument → List ℕ → List (List ℕ) → Result Command Misread
asked_by given command words = if bytes_eq command (codes "affected") then affected_of given words
    else if is_of_builds command then asked_of_builds given command words
    else option_map_or (λ asked. Ok asked) (command_of (has PUBLISHABLE.now given) command words) (Err (bad_words command))

-- what these arguments ask, or why they ask nothing
abbrev pub wanted_of : Program → List Argument → Result Wanted Misread
wanted_of p given = command_in p (words_in given) >>= λ found.
    all_judged p.options found.0 given >>= λ _.
    options_in given >>= λ options.
    suited found.0 options.format >>= λ _.
    platforms_in given >>= λ platforms.
    host_in given >>= λ host.
    resolver_in (values_of RESOLVER.now given) >>= λ resolver.
    asked_by given found.0 found.1 >>= λ command.
    Ok (record {
      options = options;
      platforms = platforms;
      host = host;
      command = command;
      path_files = values_of PATHS_FROM.now given;
      before = values_of BEFORE.now given;
      resolver = resolver;
    })

-- these platforms are in question, or any where none is named
abbrev pub question_on : List PlatformData → Question PlatformData
question_on [] = OnAny
question_on (platform ∷ platforms) = OnPlatforms (platform ∷ platforms)

-- the command with more paths
abbrev pub with_paths : List (List ℕ) → Command → Command
with_paths more (affected ignored also paths) = affected ignored also (paths ++ more)
with_paths more command = command

-- the file with the state before, the first of these, can't be read
abbrev pub IsBeforeFault : List (List ℕ) → Misread → Type 0
IsBeforeFault (file ∷ files) (before_failed other) = other ≡ file
IsBeforeFault files misread = ⊥

-- P holds of one of these, and of this
abbrev pub IsOfOne : {A B : Type 0} → (A → B → Type 0) → List A → B → Type 0
IsOfOne {A = A} P xs y = (x : A) × Contains xs x × P x y

module _ (has_bytes : List ℕ → List ℕ → Type 0) where
  -- the platform is the one of this name, and set there is what the file says
  pub record IsNamed (named : List ℕ × List ℕ) (platform : PlatformData) : Type 0 where
    pub bytes : List ℕ
    pub read : has_bytes named.1 bytes
    pub is : IsPlatform named.0 bytes platform

  -- the file has these bytes, and each path in them is ended
  pub record HasPaths (file bytes : List ℕ) : Type 0 where
    pub read : has_bytes file bytes
    pub ended : are_ended bytes ≡ true

  -- these are the bytes of the state before, where a file is named that has it
  abbrev pub IsBefore : List (List ℕ) → Option (List ℕ) → Type 0
  IsBefore [] before = before ≡ None
  IsBefore (file ∷ files) before = IsSomeAnd before (has_bytes file)

  -- it is what is wanted, with what the files have
  pub record IsAsked (wanted : Wanted) (asked : Asked) : Type 0 where
    pub options : asked.options ≡ wanted.options
    pub platforms : List PlatformData
    pub named : AllZip IsNamed wanted.platforms platforms
    pub question : asked.question ≡ question_on platforms
    pub hosts : List PlatformData
    pub host_named : AllZip IsNamed wanted.host hosts
    pub host : asked.host ≡ question_on hosts
    pub lists : List (List ℕ)
    pub read : AllZip HasPaths wanted.path_files lists
    pub command : asked.command ≡ with_paths (flat_map paths_of lists) wanted.command
    pub before : IsBefore wanted.before asked.before
    pub resolver : asked.resolver ≡ wanted.resolver

  -- the platform's file can't be read, or has a line that doesn't say what is set there
  abbrev pub IsPlatformFault : List ℕ × List ℕ → Misread → Type 0
  IsPlatformFault named (cfgs_failed file) = file ≡ named.1
  IsPlatformFault named (bad_cfg triple before) = (triple ≡ named.0)
      × ((bytes : List ℕ) × has_bytes named.1 bytes × IsFirstFault (lines bytes) before)
  IsPlatformFault named misread = ⊥

  -- the file with paths can't be read, or has one that isn't ended
  abbrev pub IsPathsFault : List ℕ → Misread → Type 0
  IsPathsFault file (paths_failed other) = other ≡ file
  IsPathsFault file (unended_paths other) = (other ≡ file)
      × ((bytes : List ℕ) × has_bytes file bytes × (are_ended bytes ≡ false))
  IsPathsFault file misread = ⊥

  -- why a file that is named doesn't have what is wanted
  abbrev pub IsUnfound : Wanted → Misread → Type 0
  IsUnfound wanted misread = IsOfOne IsPlatformFault wanted.platforms misread
      ⊎ (IsOfOne IsPlatformFault wanted.host misread
      ⊎ (IsOfOne IsPathsFault wanted.path_files misread ⊎ IsBeforeFault wanted.before misread))

  -- the words ask this, of which the files that they name have some
  pub record Asks (p : Program) (words : List (List ℕ)) (asked : Asked) : Type 0 where
    pub given : List Argument
    pub reads : Reads p words (Ok given)
    pub wants : Wanted
    pub is_wanted : wanted_of p given ≡ Ok wants
    pub is : IsAsked wants asked

  -- the words ask nothing, and why
  pub record IsMisread (p : Program) (words : List (List ℕ)) (misread : Misread) : Type 0 where
    pub outcome : Result (List Argument) Misread
    pub reads : Reads p words outcome
    pub is : ((outcome >>= wanted_of p) ≡ Err misread)
        ⊎ ((wants : Wanted) × ((outcome >>= wanted_of p) ≡ Ok wants) × IsUnfound wants misread)
