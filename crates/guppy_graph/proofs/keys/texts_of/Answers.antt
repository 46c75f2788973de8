use Rattle.std.proofs.Common.{◌≡◌, ◌∙◌, sym, ap, refl, subst, map, take, ◌++◌, ◌∷◌, []}
use Rattle.std.specs.Option.{option_copied}
use Rattle.std.proofs.lemmas.List.{map_push, take_all, take_more}
use Rattle.guppy_graph.proofs.keys.texts_of.Goals as goal

pub loop-package-init : goal.loop-package-init
loop-package-init g c = rw c.in_ok-texts.ensures.items refl

pub loop-package-preserved : goal.loop-package-preserved
loop-package-preserved g c =
    let packages = c.args.packages.now in
    let k = c.loop-package.package-index in
    let item = c.package-item.result in
    rw (c.in_ok-push.ensures.items, map_push option_copied c.loop-package.texts.items c.text_of.result, c.loop-package.invariant, c.text_of.ensures)
    (sym (ap (map g.K.Key.text_of) (take_more packages k item c.loop-package-test.true ∙ ap (λ e. take k packages ++ e ∷ []) (sym c.package-item.is))
    ∙ map_push g.K.Key.text_of (take k packages) item))

pub returns : goal.returns
returns g c = subst (λ packages. map option_copied c.loop-package.texts.items ≡ map g.K.Key.text_of packages) (take_all c.loop-package.package-index c.args.packages.now c.loop-package-test.false) c.loop-package.invariant
