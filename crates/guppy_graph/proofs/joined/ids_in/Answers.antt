use Rattle.std.proofs.Common.{◌≡◌, ◌∙◌, ◌+◌, ◌++◌, ◌∷◌, ◌≤◌, length, take, drop, sym, ap, subst, arith, map, Some}
use Rattle.std.specs.List.{flat_map}
use Rattle.std.specs.Option.{option_copied}
use Rattle.std.specs.Str.{IsUtf8}
use Rattle.std.proofs.lemmas.List.{at_drop_more, length-append, take_all}
use Rattle.std.proofs.Math.Seq.{take-append_seam}
use Rattle.std.proofs.lemmas.List.Concat.{flat_map-cons}
use Rattle.std.proofs.lemmas.Str.{IsCharBoundary-from_take}
use Rattle.guppy_search.proofs.Exits.{if_ok}
use Rattle.guppy_data.specs.declared.records.PackageRecord.{PackageRecord}
use Rattle.guppy_graph.proofs.joined.ids_in.Goals as goal

pub split_at-requires : goal.split_at-requires
split_at-requires c =
    let packages = c.args.packages.now in
    let k = c.loop-package.package-index in
    let rest = c.loop-package.rest.now in
    let id = c.repr.result.now in
    let behind = flat_map (λ (r : PackageRecord). r.id) (drop (k + 1) packages) in
    let split : rest ≡ id ++ behind =
    c.loop-package.invariant.left ∙ (at_drop_more (flat_map (λ (r : PackageRecord). r.id)) packages k c.package-item.result c.loop-package-test.true
    ∙ (ap (λ (r : PackageRecord). flat_map (λ (r : PackageRecord). r.id) (r ∷ drop (k + 1) packages)) (sym c.package-item.is)
    ∙ (flat_map-cons (λ (r : PackageRecord). r.id) c.package-item.result (drop (k + 1) packages) ∙ ap (λ own. own ++ behind) (sym c.repr.ensures)))) in
    let within : length id ≤ length rest = let long = ap length split ∙ length-append id behind in omega arith in
    let front : take (length id) rest ≡ id = ap (take (length id)) split ∙ take-append_seam id behind in
    IsCharBoundary-from_take rest (length id) c.loop-package.invariant.text within (subst IsUtf8 (sym front) c.repr.utf8)

pub returns-in_err-ids : goal.returns-in_err-ids
returns-in_err-ids c = if_ok _ _ c.from_residual.ensures.0

pub returns-in_err-push : goal.returns-in_err-push
returns-in_err-push c = if_ok _ _ c.from_residual-in_err-push.ensures.0

pub returns : goal.returns
returns c = subst (λ packages. map option_copied c.loop-package.ids.items ≡ map (λ (r : PackageRecord). Some r.id) packages) (take_all c.loop-package.package-index c.args.packages.now c.loop-package-test.false) c.loop-package.invariant.taken
