use Rattle.std.proofs.Common.{◌∙◌, ◌||◌, sym, ap, take, arith}
use Rattle.std.specs.Str.{bytes_eq}
use Rattle.std.proofs.lemmas.List.{take_all}
use Rattle.std.proofs.lemmas.List.Folds.{list_any_more}
use Rattle.guppy_command.specs.Ids.{has_id}
use Rattle.guppy_metadata.proofs.TextLists.{in_keys, among_inserted}
use Rattle.guppy_arguments.proofs.names.ids_of.Goals as goal

pub loop-package-preserved : goal.loop-package-preserved
loop-package-preserved c id =
    let packages = c.args.packages.now in
    let k = c.loop-package.package-index in
    let r = c.package-item.result in
    let more = list_any_more (λ p. bytes_eq id p.id) packages k r c.loop-package-test.true ∙ ap (λ p. has_id id (take k packages) || bytes_eq id p.id) (sym c.package-item.is) in
    ap (λ keys. in_keys (λ key. key.now) keys id) c.in_ok-insert.ensures.keys ∙ (among_inserted (λ key. key.now) c.loop-package.ids.keys c.repr.result id
    ∙ (ap (λ b. b || bytes_eq id c.repr.result.now) (c.loop-package.invariant id) ∙ (ap (λ key. has_id id (take k packages) || bytes_eq id key) c.repr.ensures ∙ sym more)))

pub returns : goal.returns
returns c id = c.loop-package.invariant id ∙ ap (has_id id) (take_all c.loop-package.package-index c.args.packages.now (let past = c.loop-package-test.false in omega arith))
