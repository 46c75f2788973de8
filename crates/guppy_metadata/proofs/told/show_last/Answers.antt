use Rattle.std.proofs.Common.{◌≡◌, ◌∙◌, ◌++◌, ◌∷◌, [], ◌-◌, List, Option, Result, Ok, Err, OnOk, OnSome, length, slice_index_or, slice_set, refl, sym, ap, subst, arith}
use Rattle.std.proofs.Math.Seq.{get_or-append_seam, set-append_seam}
use Rattle.std.proofs.lemmas.List.{length-append}
use Rattle.std.specs.Result.{result_ok}
use Rattle.std.specs.Vec.{vec_len}
use Rattle.guppy_metadata.specs.declared.types.Package.{Package}
use Rattle.guppy_metadata.specs.Told.{IsShortPackage}
use Rattle.guppy_metadata.proofs.told.show_last.Goals as goal

-- what two clauses say where all is well
both : {T E P Q : Type 0} (R : Type 0) (r : Result T E) (o : Option T) → o ≡ result_ok r → (P → Q → R) → OnOk r P → OnOk r Q → OnSome o R
both R (Ok x) o is follows p q = subst (λ o. OnSome o R) (sym is) (follows p q)
both R (Err e) o is follows p q = subst (λ o. OnSome o R) (sym is) tt

pub returns : goal.returns
returns g c =
    let packages = c.args.shown.now.packages in
    let last = c.in_ok-last.last.now in
    let after : Package = record last { «record» = c.take.new.package } in
    both _ c.take.result c.ok.result c.ok.ensures.value (λ took short before p is.
    let place : vec_len packages - 1 ≡ length before = omega (arith, packages.ok.0, ap length is, length-append before (p ∷ [])) in
    let here : last ≡ p = c.in_ok-last.ensures.value ∙ (ap (λ xs. slice_index_or xs (vec_len packages - 1) last) is ∙ (ap (λ k. slice_index_or (before ++ p ∷ []) k last) place ∙ get_or-append_seam before p [] last)) in (
      after,
      ap (λ xs. slice_set xs (vec_len packages - 1) after) is ∙ (ap (λ k. slice_set (before ++ p ∷ []) k after) place ∙ set-append_seam before p [] after),
      subst (λ (own : Package). IsShortPackage own after) here (record { id = refl; source = refl; library = refl; declared = refl; record_is = short }),
      subst (λ (own : Package). (whole left : List _) → g.P.PackageSink.took c.args.shown.now.sink whole left → g.P.PackageSink.took c.take.new.self (whole ++ own.record ∷ []) (left ++ c.take.new.package ∷ [])) here took,
    )) c.take.ensures.took c.take.ensures.short
