use Rattle.std.proofs.Common.{◌≡◌, [], Err, ℕ, List, Bor, IfErr, IfSome, refl, rules, sym, subst, map, take, ◌+◌}
use Rattle.std.specs.List.{AllZip}
use Rattle.guppy_target.specs.Platform.{PlatformData}
use Rattle.guppy_command.specs.Asked.{IsNamed, IsOfOne, IsPlatformFault}
use Rattle.guppy_command.specs.Shown.{misread_shown}
use Rattle.guppy_command.proofs.FirstItems.{contains_this, fits_with}
use Rattle.guppy_command.proofs.ShownItems.{IfSome-from}
use Rattle.guppy_command.proofs.found.platforms_of.Goals as goal

pub returns-in_err-platform_of-clause-err : goal.returns-in_err-platform_of-clause-err
returns-in_err-platform_of-clause-err g c =
    let has = g.D.Files.has c.args.files.now in
    let named = c.args.named.now in
    let k = c.loop-triple.triple-index in
    let none : Bor (List ℕ) = record { ref_ptr = (0, 0); now = [] } in
    let seen : Bor (List ℕ) × Bor (List ℕ) → List ℕ × List ℕ = λ named. (named.0.now, named.1.now) in
    let this = contains_this seen named k _ (none, none) c.loop-triple-test.true refl in
    let is : c.from_residual-in_err-platform_of.result ≡ Err c.in_err-platform_of.field-0.0 = search rules in
    subst (λ r. IfErr r (λ misread. IfSome (misread_shown misread) (IsOfOne (IsPlatformFault has) (map seen named)))) (sym is)
    (IfSome-from (misread_shown c.in_err-platform_of.field-0.0) _ _ c.in_err-platform_of.ensures.err (λ misread fault. (_, this, fault)))

pub loop-triple-preserved : goal.loop-triple-preserved
loop-triple-preserved g c =
    let has = g.D.Files.has c.args.files.now in
    let named = c.args.named.now in
    let k = c.loop-triple.triple-index in
    let none : Bor (List ℕ) = record { ref_ptr = (0, 0); now = [] } in
    let seen : Bor (List ℕ) × Bor (List ℕ) → List ℕ × List ℕ = λ named. (named.0.now, named.1.now) in
    subst (λ (platforms : List PlatformData). AllZip (IsNamed has) (map seen (take (k + 1) named)) platforms) (sym c.in_ok-push.ensures.items)
    (fits_with seen named k _ (none, none) c.loop-triple-test.true refl (IsNamed has) _ _ c.loop-triple.invariant c.in_ok-platform_of.ensures.ok)
