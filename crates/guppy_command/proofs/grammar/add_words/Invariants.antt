use Rattle.std.proofs.Common.{◌≡◌, ◌++◌, map, take, string_bytes}
use Rattle.guppy_command.specs.Grammar.{word}
use Rattle.guppy_command.specs.Shown.{argument_shown}
use Rattle.guppy_command.proofs.grammar.add_words.Given as goal

abbrev pub invariant-loop-word : goal.invariant-loop-word
invariant-loop-word l = map argument_shown l.given.items ≡ map argument_shown l.initial.given.items ++ map word (map string_bytes (take l.word-index l.words))
