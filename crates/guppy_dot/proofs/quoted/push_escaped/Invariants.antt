use Rattle.std.proofs.Common.{◌≡◌, ◌++◌, string_bytes}
use Rattle.std.specs.Str.{encode_utf8_all}
use Rattle.guppy_dot.specs.Quoted.{escaped}
use Rattle.guppy_dot.proofs.quoted.push_escaped.Given as goal

abbrev pub invariant-loop-character : goal.invariant-loop-character
invariant-loop-character l = string_bytes l.text ≡ string_bytes l.initial.text ++ escaped (encode_utf8_all l.yielded)
