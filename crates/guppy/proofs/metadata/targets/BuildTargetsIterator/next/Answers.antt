use Rattle.std.proofs.Common.{All, ◌∙◌, ◌<◌, ◌∷◌, ap, arith, ℕ, length, refl, subst, sym, slice_get}
use Rattle.std.specs.List.{cons_option, filter_map}
use Rattle.std.specs.Slice.Iter.{iter_rest}
use Rattle.std.proofs.lemmas.List.Elements.{All-head}
use Rattle.std.proofs.lemmas.Option.{slice_get_read}
use Rattle.guppy.specs.TargetIterators.{targets_left}
use Rattle.guppy.proofs.SliceRests.{remaining}
use Rattle.guppy.proofs.metadata.targets.BuildTargetsIterator.next.Goals as goal

pub invariant_of-self : goal.invariant_of-self
invariant_of-self c =
    let old = c.args.self.now in
    record {
      in_package = remaining (λ t. t < length old.targets.now) old.rest c.next.new.self c.next.result c.next.ensures.steps old.in_package;
      named = old.named;
    }

pub returns-in-Some-clause-steps : goal.returns-in-Some-clause-steps
returns-in-Some-clause-steps c =
    let old = c.args.self.now in
    let read = slice_get old.targets.now in
    let P : ℕ → Type 0 = λ t. t < length old.targets.now in
    let within = All-head P c.in-Some.place.now (iter_rest c.next.new.self) (subst (All P) c.in-Some.ensures.steps old.in_package) in
    let found = slice_get_read old.targets.now _ c.in-Some.place.now c.index-self-place.result refl within c.index-self-place.is in
    ap (filter_map read) c.in-Some.ensures.steps
    ∙ (ap (λ o. cons_option o (filter_map read (iter_rest c.next.new.self))) found ∙ ap (λ t. t ∷ filter_map read (iter_rest c.next.new.self)) (c.index-self-place.is ∙ sym c.new.ensures))

pub returns-in-Some-clause-goes : goal.returns-in-Some-clause-goes
returns-in-Some-clause-goes c =
    let old = c.args.self.now in
    let read = slice_get old.targets.now in
    let P : ℕ → Type 0 = λ t. t < length old.targets.now in
    let within = All-head P c.in-Some.place.now (iter_rest c.next.new.self) (subst (All P) c.in-Some.ensures.steps old.in_package) in
    let found = slice_get_read old.targets.now _ c.in-Some.place.now c.index-self-place.result refl within c.index-self-place.is in
    let count = ap length (ap (filter_map read) c.in-Some.ensures.steps ∙ ap (λ o. cons_option o (filter_map read (iter_rest c.next.new.self))) found) in
    let less : length (filter_map read (iter_rest c.next.new.self)) < length (targets_left old) = omega (arith, count) in
    record { on = λ finite. (tt, tt, less); keeps = tt; rests = λ finite. tt }
