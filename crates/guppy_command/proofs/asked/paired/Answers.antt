use Rattle.std.proofs.Common.{◌∙◌, List, ℕ, map, None, refl, sym, ap}
use Rattle.std.specs.Slice.Iter.{iter_rest}
use Rattle.std.proofs.lemmas.Simd.{map-map}
use Rattle.std.proofs.lemmas.Iterator.{YieldsList-from_slice, YieldsList-from_zip}
use Rattle.std.proofs.lemmas.Iterator.Consumers.{YieldsList-end}
use Rattle.guppy_command.proofs.ShownItems.{zip-map}
use Rattle.guppy_command.proofs.asked.paired.Goals as goal

pub returns : goal.returns
returns c =
    let gave = rw c.into_iter-first-iterator.ensures.into_iter_gives at c.loop-first.yielded_by in
    let firsts = YieldsList-from_slice {s = c.zip-first-items.result.a} c.args.firsts.now (ap iter_rest c.zip-first-items.ensures.first ∙ c.iter.ensures.rest) in
    let seconds = YieldsList-from_slice {s = c.zip-first-items.result.b} c.args.seconds.now (ap iter_rest c.zip-first-items.ensures.second ∙ c.iter-2.ensures.rest) in
    let all = (YieldsList-end (YieldsList-from_zip {s = c.zip-first-items.result} firsts seconds) c.loop-first.yielded c.loop-first.first-iterator gave None c.next.new.self refl c.in-None.ensures.steps).0 in
    c.loop-first.invariant
    ∙ sym (map-map {C = List ℕ × List ℕ} (λ pair. (pair.0.now, pair.1.now)) (λ pair. (pair.0.now, pair.1.now)) c.loop-first.yielded)
    ∙ ap (map {B = List ℕ × List ℕ} (λ pair. (pair.0.now, pair.1.now))) all
    ∙ zip-map (λ text. text.now) (λ text. text.now) c.args.firsts.now c.args.seconds.now
