use Rattle.std.proofs.Common.{◌≡◌, ◌-◌, ◌<◌, Bool, true, false, List, get_or, length, replicate, ap, sym, ◌∙◌, arith}
use Rattle.std.proofs.Math.ListN.{set, length-set, length-replicate}
use Rattle.std.proofs.lemmas.List.{get_or_read}
use Rattle.guppy_closure.proofs.MetBodies.{spare}
use Rattle.guppy_closure.proofs.NeededSteps.{number_low, found_at, head_low, body_low, needs_first, needs_same, needs_more}
use Rattle.guppy_closure.proofs.reasons.needed_for.Goals as goal

pub places-init : goal.places-init
places-init c =
    let size = c.node_count.ensures in
    let none : c.in_ok-needed.needed ≡ replicate (length c.args.closed.now.facts) false = rw (← size) c.in_ok-needed.ensures in
    let one : c.insert_position.new.self ≡ set (replicate (length c.args.closed.now.facts) false) c.args.fact true = c.insert_position.ensures.after ∙ ap (λ (s : List Bool). set s c.args.fact true) none in
    let all : c.len-place.result ≡ length c.args.closed.now.found.items = omega (arith, c.args.closed.now.found.ok.0) in
    record {
      count = ap (λ (s : List Bool). length s) one ∙ (length-set (replicate (length c.args.closed.now.facts) false) c.args.fact true ∙ length-replicate (length c.args.closed.now.facts) false);
      needs = rw (one, all) (needs_first c.args.clauses.now c.args.closed.now.facts c.args.closed.now.found.items c.requires.found c.args.fact c.requires.holds);
    }

pub bounds-clauses-index : goal.bounds-clauses-index
bounds-clauses-index c =
    let found = c.args.closed.now.found.items in
    let p = c.places.place - 1 in
    let n = c.index.result.now in
    let inside : p < length found = omega (arith, c.args.closed.now.found.ok.0) in
    number_low c.args.clauses.now c.args.closed.now.facts found c.requires.found p n inside (get_or_read found p n inside c.index.ensures 0)

pub has_position-requires : goal.has_position-requires
has_position-requires c =
    let facts = c.args.closed.now.facts in
    let found = c.args.closed.now.found.items in
    let cs = c.args.clauses.now in
    let p = c.places.place - 1 in
    let n = c.index.result.now in
    let inside : p < length found = omega (arith, c.args.closed.now.found.ok.0) in
    let at = found_at cs facts found c.requires.found p n inside (get_or_read found p n inside c.index.ensures 0) in
    head_low cs facts found c.requires.found (length c.places.needed) p n (get_or cs n spare) c.places.invariant.count at

pub add_body-requires : goal.add_body-requires
add_body-requires c =
    let facts = c.args.closed.now.facts in
    let found = c.args.closed.now.found.items in
    let cs = c.args.clauses.now in
    let p = c.places.place - 1 in
    let n = c.index.result.now in
    let inside : p < length found = omega (arith, c.args.closed.now.found.ok.0) in
    let at = found_at cs facts found c.requires.found p n inside (get_or_read found p n inside c.index.ensures 0) in
    body_low cs facts found c.requires.found (length c.places.needed) p n (get_or cs n spare) c.places.invariant.count at

pub places-preserved-then-has_position : goal.places-preserved-then-has_position
places-preserved-then-has_position c =
    let facts = c.args.closed.now.facts in
    let found = c.args.closed.now.found.items in
    let cs = c.args.clauses.now in
    let p = c.places.place - 1 in
    let n = c.index.result.now in
    let inside : p < length found = omega (arith, c.args.closed.now.found.ok.0) in
    let at = found_at cs facts found c.requires.found p n inside (get_or_read found p n inside c.index.ensures 0) in
    record {
      count = c.add_body.ensures.count ∙ c.places.invariant.count;
      needs = needs_more cs facts found c.requires.found c.args.fact p c.places.place n (get_or cs n spare) c.places.needed at (omega arith) c.places.invariant.needs
          c.add_body.new.set (sym c.if-has_position.ensures.value) c.add_body.ensures.members;
    }

pub places-preserved : goal.places-preserved
places-preserved c =
    let facts = c.args.closed.now.facts in
    let found = c.args.closed.now.found.items in
    let cs = c.args.clauses.now in
    let p = c.places.place - 1 in
    let n = c.index.result.now in
    let inside : p < length found = omega (arith, c.args.closed.now.found.ok.0) in
    let at = found_at cs facts found c.requires.found p n inside (get_or_read found p n inside c.index.ensures 0) in
    record {
      count = c.places.invariant.count;
      needs = needs_same cs facts found c.requires.found c.args.fact p c.places.place n (get_or cs n spare) c.places.needed at (omega arith) c.places.invariant.needs
          (λ h. absurd (let lacks = c.if-has_position.ensures.value in cc));
    }
