use Rattle.std.proofs.lemmas.Map.Lookups.{exact_unsigned}
use Rattle.guppy_closure_tests.proofs.known.known_of.Goals as goal

pub new-requires : goal.new-requires
new-requires g c = record { exact = exact_unsigned }
