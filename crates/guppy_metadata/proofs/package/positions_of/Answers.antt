use Rattle.std.proofs.Common.{◌≡◌, ◌∙◌, ℕ, ◌+◌, ◌<◌, List, Some, cond, map, take, length, string_bytes, sym, ap, subst, arith}
use Rattle.std.proofs.lemmas.List.{take_all, length-map, length-take-le}
use Rattle.std.proofs.lemmas.Map.Text.{hash_map_updates_text}
use Rattle.std.specs.Str.{bytes_eq}
use Rattle.indexmap.specs.IndexMap.{get_by_text}
use Rattle.guppy_metadata.specs.declared.types.Package.{Package}
use Rattle.guppy_metadata.specs.Package.{last_position}
use Rattle.guppy_metadata.proofs.FittingLists.{taken_more}
use Rattle.guppy_metadata.proofs.Positions.{position_behind}
use Rattle.guppy_metadata.proofs.package.positions_of.Goals as goal

abbrev id_of : Package → List ℕ
id_of p = p.id.now

pub loop-position-preserved : goal.loop-position-preserved
loop-position-preserved c id =
    let p = c.index-packages-position.result in
    let packages = c.args.packages.now in
    let k = c.loop-position.position in
    let updated = subst (λ key. get_by_text c.insert.new.self id ≡ cond (bytes_eq key id) (Some k) (get_by_text c.loop-position.positions id)) c.in_ok-from_str.ensures.ok (hash_map_updates_text (string_bytes c.in_ok-from_str.field-0) c.loop-position.positions c.insert.new.self _ c.in_ok-insert.ensures.updates id) in
    let low : k < length packages = c.loop-position-test.true in
    let many : length (map id_of (take k packages)) ≡ k = length-map (take k packages) id_of ∙ length-take-le k packages (omega arith) in
    let grown : last_position id (map id_of (take (k + 1) packages)) ≡ cond (bytes_eq p.id.now id) (Some k) (last_position id (map id_of (take k packages))) =
    ap (last_position id) (taken_more id_of packages k p _ low c.index-packages-position.is) ∙ (position_behind id (map id_of (take k packages)) p.id.now
    ∙ ap (λ n. cond (bytes_eq p.id.now id) (Some n) (last_position id (map id_of (take k packages)))) many) in
    updated ∙ (ap (cond (bytes_eq p.id.now id) (Some k)) (c.loop-position.invariant id) ∙ sym grown)

pub returns : goal.returns
returns c id =
    c.loop-position.invariant id ∙ ap (λ ps. last_position id (map id_of ps)) (take_all c.loop-position.position c.args.packages.now (let past = c.loop-position-test.false in omega arith))
