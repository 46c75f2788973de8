-- Commands, arguments and what is misread without where they lie in memory.
use Rattle.std.specs.Prelude.{◌≡◌, Bool, ℕ, List, map, Option, Some, None, option_map, is_some, IfSome, Result, Ok, Err}
use Rattle.std.specs.Borrow.{Bor}
use Rattle.std.specs.String.{string_bytes}
use Rattle.guppy_data.specs.Platform.{question_of}
use Rattle.guppy_command.specs.declared.grammar.Argument.{Argument as GivenArgument}
use Rattle.guppy_command.specs.declared.grammar.Argument.TheVariants.{Option as GivenOption, Word}
use Rattle.guppy_command.specs.declared.grammar.Misread.{Misread as GivenMisread}
use Rattle.guppy_command.specs.declared.grammar.Misread.TheVariants.{NoOption, NoValue, NeedlessValue, Repeated, NotTaken, NoCommand, UnknownCommand, BadWords, BadKinds, BadResolver, BadFormat, NoFlags, LonePlatform, LoneHost, AllIgnored, NoPaths, CfgsFailed, BadCfg, PathsFailed, UnendedPaths, OutOfMemory, BadAlso, BeforeFailed}
use Rattle.guppy_command.specs.declared.grammar.Program.{Program as GivenProgram}
use Rattle.guppy_command.specs.declared.command.BuildRequest.{BuildRequest as GivenRequest}
use Rattle.guppy_command.specs.declared.command.Command.{Command as GivenCommand}
use Rattle.guppy_command.specs.declared.command.Command.TheVariants.{Reach, Depends, Why, Order, Roots, Links, Cycles, Duplicates, Built, Features, WhyFeature, Verify, PublishOrder, Dot, Affected}
use Rattle.guppy_command.specs.declared.asked.Asked.{Asked as GivenAsked}
use Rattle.guppy_command.specs.declared.asked.Wanted.{Wanted as GivenWanted}
use Rattle.guppy_command.specs.Grammar.{OptionRow, Program, Argument, option, word, Misread, no_option, no_value, needless_value, repeated, not_taken, no_command, unknown_command, bad_words, bad_kinds, bad_resolver, bad_format, no_flags, lone_platform, lone_host, all_ignored, no_paths, cfgs_failed, bad_cfg, paths_failed, unended_paths, bad_also, before_failed}
use Rattle.guppy_command.specs.Asked.{Asked, Wanted}
use Rattle.guppy_command.specs.Command.{BuildRequest, Command, reach, depends, why, order, roots, links, cycles, duplicates, built, features, why_feature, verify, publish_order, dot, affected}

abbrev pub texts : List (Bor (List ℕ)) → List (List ℕ)
texts words = map (λ text. text.now) words

abbrev pub row_shown : Bor (List ℕ) × Option (Bor (List ℕ)) × Bool × Option (Bor (List (Bor (List ℕ)))) × Bor (List ℕ) → OptionRow
row_shown row = record {
  name = row.0.now;
  takes_value = is_some row.1;
  repeats = row.2;
  commands = option_map (λ commands. texts commands.now) row.3;
}

abbrev pub program_shown : GivenProgram → Program
program_shown p = record {
  options = map row_shown p.options.now;
  anywhere = p.anywhere;
  commands = texts p.commands.now;
}

abbrev pub argument_shown : GivenArgument → Argument
argument_shown (GivenOption name value) = option name.now (option_map (λ text. text.now) value)
argument_shown (Word text) = word text.now

abbrev pub request_shown : GivenRequest → BuildRequest
request_shown request = record {
  members = texts request.members.items;
  features = texts request.features.items;
  standard = request.standard;
  tests = request.tests;
  resolver = request.resolver;
}

abbrev pub command_shown : GivenCommand → Command
command_shown (Reach direction ids) = reach direction (texts ids.items)
command_shown (Depends from to) = depends from.now to.now
command_shown (Why from to) = why from.now to.now
command_shown Order = order
command_shown (Roots direction) = roots direction
command_shown (Links direction) = links direction
command_shown Cycles = cycles
command_shown Duplicates = duplicates
command_shown (Built request) = built (request_shown request)
command_shown (Features request id) = features (request_shown request) id.now
command_shown (WhyFeature request id feature) = why_feature (request_shown request) id.now feature.now
command_shown Verify = verify
command_shown (PublishOrder publishable) = publish_order publishable
command_shown (Dot words) = dot (texts words.items)
command_shown (Affected ignored also paths) = affected (map string_bytes ignored.items)
    (map (λ both. (both.0.now, both.1.now)) also.items) (map string_bytes paths.items)

abbrev pub wanted_shown : GivenWanted → Wanted
wanted_shown wanted = record {
  options = wanted.options;
  platforms = map (λ named. (named.0.now, named.1.now)) wanted.platforms.items;
  host = map (λ named. (named.0.now, named.1.now)) wanted.host.items;
  command = command_shown wanted.command;
  path_files = texts wanted.path_files.items;
  before = texts wanted.before.items;
  resolver = wanted.resolver;
}

abbrev pub asked_shown : GivenAsked → Asked
asked_shown asked = record {
  options = asked.options;
  question = question_of asked.platforms;
  host = question_of asked.host;
  command = command_shown asked.command;
  before = option_map (λ bytes. bytes.items) asked.before;
  resolver = asked.resolver;
}

-- why arguments ask nothing, unless memory ran out
abbrev pub misread_shown : GivenMisread → Option Misread
misread_shown (NoOption text) = Some (no_option text.now)
misread_shown (NoValue name) = Some (no_value name.now)
misread_shown (NeedlessValue name) = Some (needless_value name.now)
misread_shown (Repeated name) = Some (repeated name.now)
misread_shown (NotTaken command name) = Some (not_taken command.now name.now)
misread_shown NoCommand = Some no_command
misread_shown (UnknownCommand text) = Some (unknown_command text.now)
misread_shown (BadWords command) = Some (bad_words command.now)
misread_shown (BadKinds value) = Some (bad_kinds value.now)
misread_shown (BadResolver value) = Some (bad_resolver value.now)
misread_shown (BadFormat value) = Some (bad_format value.now)
misread_shown (NoFlags command) = Some (no_flags command.now)
misread_shown LonePlatform = Some lone_platform
misread_shown LoneHost = Some lone_host
misread_shown (AllIgnored folder) = Some (all_ignored folder.now)
misread_shown (BadAlso text) = Some (bad_also text.now)
misread_shown NoPaths = Some no_paths
misread_shown (CfgsFailed file) = Some (cfgs_failed file.now)
misread_shown (BadCfg triple lines) = Some (bad_cfg triple.now lines)
misread_shown (PathsFailed file) = Some (paths_failed file.now)
misread_shown (UnendedPaths file) = Some (unended_paths file.now)
misread_shown (BeforeFailed file) = Some (before_failed file.now)
misread_shown OutOfMemory = None

-- P holds of the outcome, unless memory ran out
abbrev pub Unless : {T A : Type 0} → (T → A) → (Result A Misread → Type 0) → Result T GivenMisread → Type 0
Unless shown P (Ok x) = P (Ok (shown x))
Unless shown P (Err misread) = IfSome (misread_shown misread) (λ told. P (Err told))

-- the outcome is this one, unless memory ran out
abbrev pub Gives : {T A : Type 0} → (T → A) → Result A Misread → Result T GivenMisread → Type 0
Gives shown outcome result = Unless shown (λ other. outcome ≡ other) result
