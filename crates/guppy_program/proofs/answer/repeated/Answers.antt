use Rattle.std.proofs.Common.{refl, ℕ, List, Bor, Vec, Global, map}
use Rattle.guppy_program.proofs.answer.repeated.Goals as goal

pub returns-clause-ok : goal.returns-clause-ok
returns-clause-ok c = record {
  rows = map (λ (row : Vec (Bor (List ℕ)) Global). map (λ id. id.now) row.items) c.in_ok-duplicates.field-0.items;
  exact = c.in_ok-duplicates.ensures.rows;
  told = refl;
}
