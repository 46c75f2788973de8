use Rattle.std.proofs.Common.{◌≡◌, ◌∙◌, length, arith}
use Rattle.guppy_closure.proofs.Places.{within_places, named_places, same_places}
use Rattle.guppy_closure.proofs.known.Known.new.Goals as goal

pub numbered-requires-clause-named : goal.numbered-requires-clause-named
numbered-requires-clause-named g c =
    named_places c.args.clauses.items c.deref.result.now c.deref-3.result.now c.in_ok-names.names.items c.deref-4.result.now c.deref.ensures.value c.deref-3.ensures.value c.deref-4.ensures.value c.in_ok-names.ensures.named

pub closure-requires-clause-within : goal.closure-requires-clause-within
closure-requires-clause-within g c =
    let count : c.len-2.result ≡ length c.in_ok-names.names.items = omega (arith, c.in_ok-names.names.ok.0) in
    within_places c.in_ok-names.names.items c.deref-4.result.now c.deref-3.result.now c.in_ok-numbered.numbered.items c.deref-5.result.now c.len-2.result c.deref-4.ensures.value c.deref-5.ensures.value count c.in_ok-numbered.ensures

pub invariant_of-result : goal.invariant_of-result
invariant_of-result g c =
    let count : c.len-2.result ≡ length c.in_ok-names.names.items = omega (arith, c.in_ok-names.names.ok.0) in
    let numbers = c.deref-5.ensures.value in
    record {
      exact = c.requires.exact;
      order = c.in_ok-names.ensures.order;
      same = same_places c.args.clauses.items c.deref-3.result.now c.in_ok-names.names.items c.deref-4.result.now c.in_ok-numbered.numbered.items c.deref-3.ensures.value c.deref-4.ensures.value c.in_ok-numbered.ensures;
      count = c.in_ok-closed.ensures.count ∙ count;
      found = rw (← numbers) c.in_ok-closed.ensures.found;
      holds = rw (← numbers) c.in_ok-closed.ensures.holds;
    }
