use Rattle.std.proofs.Common.{◌≡◌, map, take, string_bytes}
use Rattle.guppy_print.specs.Flags.{flag_of}
use Rattle.guppy_print.proofs.flags.flags_of.Given as goal

abbrev pub invariant-loop-id : goal.invariant-loop-id
invariant-loop-id g l = map string_bytes l.flags.items ≡ map (flag_of g.F.Format.format l.options l.graph.packages) (map (λ id. id.now) (take l.id-index l.ids))
