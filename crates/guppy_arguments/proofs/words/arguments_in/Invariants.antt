use Rattle.std.proofs.Common.{◌≡◌, map, string_bytes}
use Rattle.guppy_arguments.proofs.words.arguments_in.Given as goal

abbrev pub invariant-loop-word : goal.invariant-loop-word
invariant-loop-word l = map string_bytes l.args.items ≡ map (λ piece. piece.now) l.yielded
