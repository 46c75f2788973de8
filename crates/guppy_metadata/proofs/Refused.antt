-- What a clause says of what was not read.
use Rattle.std.proofs.Common.{◌≡◌, ◌∙◌, ℕ, List, Some, Result, Ok, Err, MatchResult, sym, subst}
use Rattle.std.specs.Prelude.{IfOk, IfErr, IsErr, IsErrAnd}
use Rattle.std.proofs.lemmas.Option.{none-some}
use Rattle.json.specs.Json.{Json}
use Rattle.json.specs.Find.{get}
use Rattle.guppy_metadata.specs.Fault.{LacksMemory, NoneIs}
use Rattle.guppy_metadata.specs.Members.{HasNoMembers}
use Rattle.guppy_metadata.specs.declared.fault.Misfit.{Misfit}
use Rattle.guppy_metadata.specs.declared.fault.Misfit.TheVariants.{OutOfMemory}

-- of what failed a clause says what it says of the error
pub failed : {T E : Type 0} (P : T → Type 0) (Q W : E → Type 0) (r : Result T E) → IsErr r × IsErrAnd r W → ((e : E) → W e → Q e) → MatchResult r P Q
failed P Q W (Ok x) is follows = absurd is.1
failed P Q W (Err e) is follows = follows e is.1

-- the same of a clause on errors alone
pub of_error : {T E : Type 0} (P W : E → Type 0) (r : Result T E) → IsErr r × IsErrAnd r W → ((e : E) → W e → P e) → IfErr r P
of_error P W (Ok x) is follows = absurd is.1
of_error P W (Err e) is follows = follows e is.1

-- where memory was lacking nothing is blamed
pub lacking : {X : Type 0} (R : X → Type 0) (e : Misfit) → e ≡ OutOfMemory → NoneIs R e
lacking R e is other x holds = other (subst LacksMemory (sym is) tt)

-- nothing is as R says where nothing is as its part has to be
pub part : {X Y : Type 0} (R : X → Type 0) (Q : Y → Type 0) (e f : Misfit) → (LacksMemory f → LacksMemory e) → ((x : X) → R x → (y : Y) × Q y) → NoneIs Q f → NoneIs R e
part R Q e f kept has none other x holds = let y = has x holds in none (λ lacks. other (kept lacks)) y.0 y.1

-- the same where the error is handed on
pub handed : {X Y : Type 0} (R : X → Type 0) (Q : Y → Type 0) (f e : Misfit) → e ≡ f → ((x : X) → R x → (y : Y) × Q y) → NoneIs Q f → NoneIs R e
handed R Q f e is has none = part R Q e f (λ lacks. subst LacksMemory (sym is) lacks) has none

-- what failed as one of its parts did: nothing is as R says
pub refused : {T X Y : Type 0} {R : X → Type 0} {Q : Y → Type 0} (P : T → Type 0) (f : Misfit) (r : Result T Misfit) → IsErr r × IsErrAnd r (λ e. e ≡ f)
    → ((x : X) → R x → (y : Y) × Q y) → NoneIs Q f → MatchResult r P (NoneIs R)
refused {R = R} {Q = Q} P f r is has none = failed P (NoneIs R) (λ e. e ≡ f) r is (λ e same. handed R Q f e same has none)

-- nothing is as R says where there are no members, and R asks for one
pub no_member : {X : Type 0} (R : X → Type 0) (d : Json) (name : List ℕ) (e : Misfit) → HasNoMembers d → ((x : X) → R x → (told : Json) × (get name d ≡ Some told)) → NoneIs R e
no_member R d name e none has other x holds = let member = has x holds in none-some member.0 (sym (none name) ∙ member.1)

-- what follows of what was read, and of why nothing was, is said of both
pub implied : {T E : Type 0} {P R : T → Type 0} {Q S : E → Type 0} (r : Result T E) → ((x : T) → P x → R x) → ((e : E) → Q e → S e) → MatchResult r P Q → MatchResult r R S
implied (Ok x) of_ok of_err holds = of_ok x holds
implied (Err e) of_ok of_err holds = of_err e holds

-- the same where the two are said apart
pub implied_apart : {T E : Type 0} {P R : T → Type 0} {Q S : E → Type 0} (r : Result T E) → ((x : T) → P x → R x) → ((e : E) → Q e → S e) → IfOk r P → IfErr r Q → MatchResult r R S
implied_apart (Ok x) of_ok of_err ok err = of_ok x ok
implied_apart (Err e) of_ok of_err ok err = of_err e err
