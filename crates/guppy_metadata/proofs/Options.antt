-- What holds of what is there.
use Rattle.std.proofs.Common.{◌≡◌, false, Option, None, Some, IfSome, IsSomeAnd, refl}
use Rattle.std.specs.Prelude.{is_some}
use Rattle.std.proofs.lemmas.Bool.{false≢true}

module _ {A : Type 0} {P Q : A → Type 0} where
  pub if_some : (o : Option A) → ((a : A) → P a → Q a) → IfSome o P → IfSome o Q
  if_some None implies holds = tt
  if_some (Some a) implies holds = implies a holds

  pub some_and : (o : Option A) → ((a : A) → P a → Q a) → IsSomeAnd o P → IsSomeAnd o Q
  some_and None implies holds = holds
  some_and (Some a) implies holds = implies a holds

-- whatever holds of what isn't there
pub if_none : {A : Type 0} (P : A → Type 0) (o : Option A) → false ≡ is_some o → IfSome o P
if_none P None none = tt
if_none P (Some a) none = absurd (false≢true none)

-- what is there
pub some_told : {A : Type 0} {P : A → Type 0} (o : Option A) → IsSomeAnd o P → (a : A) × (o ≡ Some a) × P a
some_told None holds = absurd holds
some_told (Some a) holds = (a, refl, holds)
