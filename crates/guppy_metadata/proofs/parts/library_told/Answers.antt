use Rattle.std.proofs.Common.{◌≡◌, Bool, true, false, refl, ap, subst, IfSome, IsSomeAnd, codes}
use Rattle.std.specs.Bool.{then_some}
use Rattle.std.specs.Option.{option_copied}
use Rattle.guppy_metadata.specs.Package.{is_asked}
use Rattle.guppy_metadata.specs.Target.{IsLibraryAmong}
use Rattle.guppy_metadata.proofs.Turns.{if_ok}
use Rattle.guppy_metadata.proofs.parts.library_told.Goals as goal

-- what holds of a value where it is there
where_there : {T : Type 0} (P : T → Type 0) (there : Bool) (x : T) → (there ≡ true → P x) → IfSome (then_some there x) P
where_there P true x holds = holds refl
where_there P false x holds = tt

pub returns-in-With : goal.returns-in-With
returns-in-With c =
    if_ok _ _ _ c.first_library.result c.ok.result c.ok.ensures.value
    (λ name is d same plain. subst (λ o. IsSomeAnd o (λ told. IsLibraryAmong told (option_copied name))) (same (codes "targets") (refl, ap (λ asked. is_asked asked (codes "targets")) c.in-With.is)) is) c.first_library.ensures

pub returns-in-Without : goal.returns-in-Without
returns-in-Without c = rw c.then_some.ensures (where_there _ c.args.has_targets c.args.library (λ there d same told. told c.in-Without.is there))
