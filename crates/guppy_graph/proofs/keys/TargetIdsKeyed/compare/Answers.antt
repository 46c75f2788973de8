use Rattle.std.proofs.Common.{refl}
use Rattle.std.proofs.lemmas.Option.{slice_get_past, slice_get_read}
use Rattle.guppy_graph.proofs.keys.TargetIdsKeyed.compare.Goals as goal

pub returns-in-Some-Some : goal.returns-in-Some-Some
returns-in-Some-Some c =
    let targets = c.args.self.now.0.now in
    let look = c.in-Some-Some.ensures.lookup in
    let look' = c.in-Some-Some.ensures'.lookup in
    rw (slice_get_read targets _ c.args.a c.in-Some-Some.target.now refl look.3.0 look.1, slice_get_read targets _ c.args.b c.in-Some-Some.other.now refl look'.3.0 look'.1)
    (rw (c.new.ensures, c.new-in-Some-Some.ensures) at c.cmp.ensures)

pub returns-in-Some-None : goal.returns-in-Some-None
returns-in-Some-None c =
    let targets = c.args.self.now.0.now in
    let look = c.in-Some-None.ensures.lookup in
    rw (slice_get_read targets _ c.args.a c.in-Some-None.field-0-0.now refl look.3.0 look.1, slice_get_past targets c.args.b c.in-Some-None.ensures'.lookup.3) refl

pub returns-in-None-Some : goal.returns-in-None-Some
returns-in-None-Some c =
    let targets = c.args.self.now.0.now in
    let look = c.in-None-Some.ensures'.lookup in
    rw (slice_get_past targets c.args.a c.in-None-Some.ensures.lookup.3, slice_get_read targets _ c.args.b c.in-None-Some.field-0-1.now refl look.3.0 look.1) refl

pub returns-in-None-None : goal.returns-in-None-None
returns-in-None-None c =
    let targets = c.args.self.now.0.now in
    rw (slice_get_past targets c.args.a c.in-None-None.ensures.lookup.3, slice_get_past targets c.args.b c.in-None-None.ensures'.lookup.3) refl
