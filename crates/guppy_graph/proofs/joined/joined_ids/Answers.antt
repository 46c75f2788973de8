use Rattle.std.proofs.Common.{◌≡◌, ◌∙◌, sym, ap, subst, take, ◌++◌, ◌∷◌, []}
use Rattle.std.specs.List.{flat_map}
use Rattle.std.specs.String.{string_bytes}
use Rattle.std.proofs.lemmas.List.{flat_map_more, take_all, take_more}
use Rattle.guppy_search.proofs.Exits.{if_ok}
use Rattle.guppy_data.specs.declared.records.PackageRecord.{PackageRecord}
use Rattle.guppy_graph.proofs.joined.joined_ids.Goals as goal

pub loop-package-init : goal.loop-package-init
loop-package-init c = c.new-joined.ensures.bytes

pub loop-package-preserved : goal.loop-package-preserved
loop-package-preserved c =
    let packages = c.args.packages.now in
    let k = c.loop-package.package-index in
    let item = c.package-item.result in
    let before = take k packages in
    let more = take_more packages k item c.loop-package-test.true ∙ ap (λ (r : PackageRecord). before ++ r ∷ []) (sym c.package-item.is) in
    c.in_ok-push_str.ensures.bytes
    ∙ (ap (λ ids. ids ++ c.repr.result.now) c.loop-package.invariant
    ∙ (ap (λ id. flat_map (λ (r : PackageRecord). r.id) before ++ id) c.repr.ensures
    ∙ (flat_map_more (λ (r : PackageRecord). r.id) [] before item ∙ ap (flat_map (λ (r : PackageRecord). r.id)) (sym more))))

pub returns-in_err-push_str : goal.returns-in_err-push_str
returns-in_err-push_str c = if_ok _ _ c.from_residual.ensures.0

pub returns : goal.returns
returns c = subst (λ packages. string_bytes c.loop-package.joined ≡ flat_map (λ (r : PackageRecord). r.id) packages) (take_all c.loop-package.package-index c.args.packages.now c.loop-package-test.false) c.loop-package.invariant
