use Rattle.std.proofs.Common.{Bor, List, ℕ, get_or, [], subst}
use Rattle.std.proofs.lemmas.List.{get_or_default, take_all}
use Rattle.std.specs.List.{AllZip}
use Rattle.guppy_data.specs.NamedFeature.{IsFeature}
use Rattle.guppy_data.specs.declared.texts.named_feature.NamedFeatureDep.{NamedFeatureDep}
use Rattle.guppy_graph.proofs.Lists.{AllZip-more}
use Rattle.guppy_built.proofs.Seen.{zip_seen}
use Rattle.guppy_built.proofs.asked.values_of.Goals as goal

pub loop-text-preserved : goal.loop-text-preserved
loop-text-preserved c =
    let R = λ (text : Bor (List ℕ)) (value : NamedFeatureDep). IsFeature text.now value in
    let texts = c.args.texts.now in
    let i = c.loop-text.text-index in
    let text = get_or texts i (record { ref_ptr = (0, 0); now = [] }) in
    rw c.in_ok-push.ensures.items (AllZip-more R texts c.loop-text.values.items i text _ c.loop-text-test.true (get_or_default texts i text _ c.loop-text-test.true) c.loop-text.invariant c.in_ok-from_text.ensures.read)

pub returns : goal.returns
returns c =
    let R = λ (text : Bor (List ℕ)) (value : NamedFeatureDep). IsFeature text.now value in
    let texts = c.args.texts.now in
    zip_seen (λ (text : Bor (List ℕ)). text.now) IsFeature texts c.loop-text.values.items
    (subst (λ texts. AllZip R texts c.loop-text.values.items) (take_all c.loop-text.text-index texts c.loop-text-test.false) c.loop-text.invariant)
