-- What a clause on one outcome says at the other one.
use Rattle.std.proofs.Common.{◌≡◌, true, Result, Ok, Err, is_err}
use Rattle.std.specs.Prelude.{IfOk, IfErr, IsErrAnd, OnOk, OnErr}

-- of an error a clause on Ok says nothing
pub if_ok : {T E : Type 0} (P : T → Type 0) (r : Result T E) → is_err r ≡ true → IfOk r P
if_ok P (Ok x) failed = absurd (cc)
if_ok P (Err e) failed = tt

-- the same, where the clause does not name what Ok holds
pub on_ok : {T E : Type 0} (P : Type 0) (r : Result T E) → is_err r ≡ true → OnOk r P
on_ok P (Ok x) failed = absurd (cc)
on_ok P (Err e) failed = tt

-- what holds anyway holds of an error
pub on_err : {T E P : Type 0} (r : Result T E) → P → OnErr r P
on_err (Ok x) p = tt
on_err (Err e) p = p

-- a clause on the error follows from what is known of it
pub if_err : {T E : Type 0} (P Q : E → Type 0) (r : Result T E) → IsErrAnd r Q → ((e : E) → Q e → P e) → IfErr r P
if_err P Q (Ok x) failed follows = tt
if_err P Q (Err e) failed follows = follows e failed
