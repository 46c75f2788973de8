use Rattle.std.proofs.Common.{◌≡◌, ◌∙◌, ◌+◌, ◌∷◌, ◌++◌, [], ℕ, true, false, List, Some, cond, sym, ap, subst, arith, take, string_bytes}
use Rattle.indexmap.specs.IndexMap.{get_by_text}
use Rattle.std.specs.Option.{is_some, option_map}
use Rattle.std.specs.Str.{bytes_eq}
use Rattle.std.proofs.lemmas.List.{take_all, take_more}
use Rattle.std.proofs.lemmas.Map.Text.{hash_map_updates_text}
use Rattle.guppy_data.specs.declared.records.PackageRecord.{PackageRecord}
use Rattle.guppy_arguments.specs.Names.{printed}
use Rattle.guppy_arguments.proofs.FirstElements.{first_with, HasFirsts, HasFirsts-stays, HasFirsts-put, map_or_same}
use Rattle.guppy_arguments.proofs.names.texts_of.Goals as goal

pub loop-package-preserved-then-contains_key : goal.loop-package-preserved-then-contains_key
loop-package-preserved-then-contains_key c are_ids are_called =
    let packages = c.args.packages.now in
    let k = c.loop-package.package-index in
    let r = c.package-item.result in
    let behind = get_by_text c.loop-package.texts in
    let there : is_some (behind r.id) ≡ true = sym (c.contains_key.ensures ∙ ap (λ bs. is_some (behind bs)) c.repr-id.ensures) ∙ c.if-contains_key.true in
    let next : take (k + 1) packages ≡ take k packages ++ r ∷ [] = take_more packages k r c.loop-package-test.true ∙ ap (λ p. take k packages ++ p ∷ []) (sym c.package-item.is) in
    subst (λ (ps : List PackageRecord). HasFirsts (λ p. p.id) (printed packages) string_bytes ps behind) (sym next)
    (HasFirsts-stays (λ p. p.id) (printed packages) string_bytes (take k packages) r behind (c.loop-package.invariant are_ids are_called) there)

pub loop-package-preserved : goal.loop-package-preserved
loop-package-preserved c are_ids are_called =
    let packages = c.args.packages.now in
    let k = c.loop-package.package-index in
    let r = c.package-item.result in
    let was = get_by_text c.loop-package.texts in
    let text = c.in_ok-text.text in
    let none : is_some (was r.id) ≡ false = sym (c.contains_key.ensures ∙ ap (λ bs. is_some (was bs)) c.repr-id.ensures) ∙ c.if-contains_key.false in
    let key : string_bytes c.in_ok-from_str.field-0 ≡ r.id = c.in_ok-from_str.ensures.ok ∙ c.repr-id.ensures in
    let put = λ (id : List ℕ). hash_map_updates_text (string_bytes c.in_ok-from_str.field-0) c.loop-package.texts c.insert.new.self _ c.in_ok-insert.ensures.updates id ∙ ap (λ bs. cond (bytes_eq bs id) (Some text) (was id)) key in
    let next : take (k + 1) packages ≡ take k packages ++ r ∷ [] = take_more packages k r c.loop-package-test.true ∙ ap (λ p. take k packages ++ p ∷ []) (sym c.package-item.is) in
    subst (λ (ps : List PackageRecord). HasFirsts (λ p. p.id) (printed packages) string_bytes ps (get_by_text c.insert.new.self)) (sym next)
    (HasFirsts-put (λ p. p.id) (printed packages) string_bytes (take k packages) r was (c.loop-package.invariant are_ids are_called) (get_by_text c.insert.new.self) text none put (c.in_ok-text.ensures packages are_ids are_called))

pub returns : goal.returns
returns c are_ids are_called id =
    let packages = c.args.packages.now in
    map_or_same string_bytes (printed packages) (get_by_text c.loop-package.texts id) (first_with (λ p. p.id) packages id) id
    (c.loop-package.invariant are_ids are_called id ∙ ap (λ ps. option_map (printed packages) (first_with (λ p. p.id) ps id)) (take_all c.loop-package.package-index packages (let past = c.loop-package-test.false in omega arith)))
