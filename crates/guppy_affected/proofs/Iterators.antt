-- Facts along equations and results, of sets and of iterators.
use Rattle.std.proofs.Common.{◌≡◌, refl, ℕ, Bool, List, map, None, Ok, Err}
use Rattle.std.specs.Prelude.{◌↔◌, Result, IfOk}
use Rattle.std.specs.Iterator.{Yields, YieldsFirstBy}
use Rattle.std.proofs.lemmas.Iterator.Consumers.{YieldsList-from_first, YieldsList-end}
use Rattle.guppy_data.specs.declared.records.PackageRecord.{PackageRecord}
use Rattle.guppy.specs.Query.{IsSetWhere}

-- where no item is left, all that were left at first were given
pub all_given : {S A B : Type 0} (view : A → B) (rest : S → List B) (s t u : S) (given : List A) → Yields (YieldsFirstBy view rest) s given t → YieldsFirstBy view rest t None u → map view given ≡ rest s
all_given view rest s t u given gave step = (YieldsList-end (YieldsList-from_first view rest {s = s} (rest s) refl) given t gave None u refl step).0

pub where_along : {P Q : ℕ → Type 0} (packages : List PackageRecord) (set : List Bool) → ((p : ℕ) → P p ↔ Q p) → IsSetWhere packages P set → IsSetWhere packages Q set
where_along packages set both where_p = record {
  count_is = where_p.count_is;
  members = λ p. (λ h. (both p).0 ((where_p.members p).0 h), λ h. (where_p.members p).1 ((both p).1 h));
}

pub IfOk-along : {T E : Type 0} (result : Result T E) (P Q : T → Type 0) → ((x : T) → P x → Q x) → IfOk result P → IfOk result Q
IfOk-along (Ok x) P Q along p = along x p
IfOk-along (Err e) P Q along p = tt

pub IfOk-along_both : {T E : Type 0} (result : Result T E) (P Q R : T → Type 0) → ((x : T) → P x → Q x → R x) → IfOk result P → IfOk result Q → IfOk result R
IfOk-along_both (Ok x) P Q R along p q = along x p q
IfOk-along_both (Err e) P Q R along p q = tt
