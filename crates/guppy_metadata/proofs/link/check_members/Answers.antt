use Rattle.std.proofs.Common.{◌∙◌, ◌+◌, ◌&&◌, List, [], ℕ, Bool, map, take, get_or, sym, ap, arith}
use Rattle.std.proofs.lemmas.List.{take_all}
use Rattle.std.proofs.lemmas.List.Folds.{list_all-map, list_all_at, list_all_more}
use Rattle.guppy_metadata.specs.Members.{is_among}
use Rattle.guppy_metadata.specs.Package.{are_known}
use Rattle.guppy_metadata.proofs.KnownMembers.{known_at}
use Rattle.guppy_metadata.proofs.link.check_members.Goals as goal

pub returns-then-is_none : goal.returns-then-is_none
returns-then-is_none c other =
    let packages = c.args.packages.now in
    let known : List ℕ → Bool = is_among (map (λ p. p.id.now) packages) in
    list_all-map known (λ id. id.now) c.args.members.now
    ∙ list_all_at (λ id. known id.now) c.args.members.now c.loop-index.index _ c.loop-index-test.true (known_at _ packages c.with_id.result _ c.with_id.ensures c.if-is_none.ensures)

pub loop-index-preserved : goal.loop-index-preserved
loop-index-preserved c =
    let packages = c.args.packages.now in
    let known : List ℕ → Bool = is_among (map (λ p. p.id.now) packages) in
    let ids = c.args.members.now in
    let k = c.loop-index.index in
    let id = get_or ids k (record { ref_ptr = (0, 0); now = [] }) in
    list_all-map known (λ id. id.now) (take (k + 1) ids)
    ∙ (list_all_more (λ id. known id.now) ids k _ c.loop-index-test.true
    ∙ (ap (λ b. b && known id.now) (sym (list_all-map known (λ id. id.now) (take k ids)) ∙ c.loop-index.invariant)
    ∙ known_at _ packages c.with_id.result _ c.with_id.ensures c.if-is_none.ensures))

pub returns : goal.returns
returns c =
    ap (λ ids. are_known c.args.packages.now (map (λ id. id.now) ids)) (sym (take_all c.loop-index.index c.args.members.now (let past = c.loop-index-test.false in omega arith))) ∙ c.loop-index.invariant
