use Rattle.std.specs.Prelude.{Contains}
use Rattle.guppy_closure.proofs.Listing.{all_named}
use Rattle.guppy_closure.proofs.named.add_names.Goals as goal

pub returns-clause-kept : goal.returns-clause-kept
returns-clause-kept g c = λ f h.
    c.in_ok-add_name.ensures.kept f (c.in_ok-add_if_some-2.ensures.kept f (c.in_ok-add_if_some.ensures.kept f h))

pub returns-clause-named : goal.returns-clause-named
returns-clause-named g c =
    let last = c.in_ok-add_name.ensures in
    let second = c.in_ok-add_if_some-2.ensures in
    all_named c.args.clause.now (Contains c.add_name.new.names.items)
    (λ f e. last.kept f (second.kept f (c.in_ok-add_if_some.ensures.named f e)))
    (λ f e. last.kept f (second.named f e))
    last.named
