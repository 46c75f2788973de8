use Rattle.std.proofs.Common.{◌∙◌, ◌||◌, [], get_or, refl, sym, ap, map, arith}
use Rattle.std.specs.Str.{bytes_eq}
use Rattle.std.proofs.lemmas.List.{take_all}
use Rattle.guppy_metadata.specs.Members.{is_among}
use Rattle.guppy_metadata.proofs.TextLists.{in_keys, among_inserted, among_more}
use Rattle.guppy_metadata.proofs.workspace.set_of.Goals as goal

pub loop-id-preserved : goal.loop-id-preserved
loop-id-preserved c text =
    let id = get_or c.args.ids.now c.loop-id.id-index (record { ref_ptr = (0, 0); now = [] }) in
    ap (λ keys. in_keys (λ id. id.now) keys text) c.in_ok-insert.ensures.keys ∙ (among_inserted (λ id. id.now) c.loop-id.set.keys id text
    ∙ (ap (λ b. b || bytes_eq text id.now) (c.loop-id.invariant text) ∙ sym (among_more (bytes_eq text) (λ id. id.now) c.args.ids.now c.loop-id.id-index id _ c.loop-id-test.true refl)))

pub returns : goal.returns
returns c text =
    c.loop-id.invariant text ∙ ap (λ ids. is_among (map (λ id. id.now) ids) text) (take_all c.loop-id.id-index c.args.ids.now (let past = c.loop-id-test.false in omega arith))
