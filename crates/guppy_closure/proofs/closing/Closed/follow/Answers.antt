use Rattle.std.proofs.Common.{◌≡◌, ◌+◌, ◌-◌, ◌/◌, ◌<◌, Some, get_or, length, vec_capacity, refl, ◌∙◌, subst, arith}
use Rattle.std.specs.Prelude.{slice_get}
use Rattle.std.proofs.lemmas.List.{get_or_read}
use Rattle.std.proofs.lemmas.List.Elements.{Contains-get_or}
use Rattle.std.proofs.lemmas.Option.{slice_get-get_or}
use Rattle.guppy_closure.proofs.MetBodies.{spare}
use Rattle.guppy_closure.specs.Places.{slots, IsRow}
use Rattle.guppy_closure.proofs.Derivations.{numbered}
use Rattle.guppy_closure.proofs.Steps.{looks_size, closing_room, closing_followed, leads_on, following_looked, following_few, following_inside, following_end}
use Rattle.guppy_closure.proofs.closing.Closed.follow.Goals as goal

pub bounds-clauses-index : goal.bounds-clauses-index
bounds-clauses-index c =
    let found = c.args.self.now.found.items in
    let read = get_or_read found c.args.place c.index.result.now c.requires.inside c.index.ensures 0 in
    let inside = numbered c.args.clauses.now found c.requires.closing.order (get_or found c.args.place 0) (Contains-get_or found c.args.place 0 c.requires.inside) in
    omega arith

pub places-init : goal.places-init
places-init c =
    let found = c.args.self.now.found.items in
    let cs = c.args.clauses.now in
    let n = c.index.result.now in
    let read = get_or_read found c.args.place n c.requires.inside c.index.ensures 0 in
    let inside : get_or found c.args.place 0 < length cs = numbered cs found c.requires.closing.order (get_or found c.args.place 0) (Contains-get_or found c.args.place 0 c.requires.inside) in
    let inside' : n < length cs = omega arith in
    let d = get_or cs n spare in
    let at : slice_get cs (get_or found c.args.place 0) ≡ Some d = subst (λ m. slice_get cs m ≡ Some d) read (slice_get-get_or cs n spare inside') in
    let head = (c.requires.within n spare inside').head in
    let last = c.requires.last in
    let low : d.head < length c.args.bodies.now.last.items = omega arith in
    let mark : c.index-2.result.now ≡ get_or c.args.bodies.now.last.items d.head 0 = get_or_read c.args.bodies.now.last.items d.head c.index-2.result.now low c.index-2.ensures 0 in
    let row : IsRow (slots cs) c.args.bodies.now.earlier.items d.head c.index-2.result.now = rw mark (c.requires.linked.rows d.head low) in
    record {
      count = refl;
      following = closing_followed cs c.args.self.now.facts found c.args.bodies.now.earlier.items c.args.place c.args.self.now.looks c.index-2.result.now d c.requires.inside at row c.requires.closing;
      capacity = refl;
    }

pub bounds-clauses-number : goal.bounds-clauses-number
bounds-clauses-number c =
    following_inside c.args.clauses.now c.places.self.facts c.places.self.found.items c.args.bodies.now.earlier.items (c.args.place + 1) c.places.self.looks c.places.mark c.places.invariant.following (omega arith) c.requires.linked.size

pub offset_bounds-clauses-number : goal.offset_bounds-clauses-number
offset_bounds-clauses-number c =
    let inside = following_inside c.args.clauses.now c.places.self.facts c.places.self.found.items c.args.bodies.now.earlier.items (c.args.place + 1) c.places.self.looks c.places.mark c.places.invariant.following (omega arith) c.requires.linked.size in
    let few = c.requires.few_clauses in
    omega arith

pub look-requires-clause-within : goal.look-requires-clause-within
look-requires-clause-within c =
    rw c.places.invariant.count (c.requires.within ((c.places.mark - 1) / 2) spare (following_inside c.args.clauses.now c.places.self.facts c.places.self.found.items c.args.bodies.now.earlier.items (c.args.place + 1) c.places.self.looks c.places.mark c.places.invariant.following (omega arith) c.requires.linked.size))

pub look-requires-clause-number : goal.look-requires-clause-number
look-requires-clause-number c =
    let inside = following_inside c.args.clauses.now c.places.self.facts c.places.self.found.items c.args.bodies.now.earlier.items (c.args.place + 1) c.places.self.looks c.places.mark c.places.invariant.following (omega arith) c.requires.linked.size in
    let few = c.requires.few_clauses in
    omega arith

pub look-requires-clause-room : goal.look-requires-clause-room
look-requires-clause-room c = λ new.
    let s = c.places.invariant in
    let n = (c.places.mark - 1) / 2 in
    let d = get_or c.args.clauses.now n spare in
    let within = c.requires.within n spare (following_inside c.args.clauses.now c.places.self.facts c.places.self.found.items c.args.bodies.now.earlier.items (c.args.place + 1) c.places.self.looks c.places.mark c.places.invariant.following (omega arith) c.requires.linked.size) in
    let room = closing_room c.args.clauses.now c.places.self.facts c.places.self.found.items (c.args.place + 1) _ _ s.following.closing d.head (length c.args.self.now.facts) (vec_capacity c.places.self.found) within.head s.count (rw s.capacity c.requires.room) new in
    omega (arith, c.places.self.found.ok.0)

pub look-requires-clause-looks : goal.look-requires-clause-looks
look-requires-clause-looks c =
    let few = following_few c.args.clauses.now c.places.self.facts c.places.self.found.items c.args.bodies.now.earlier.items (c.args.place + 1) c.places.self.looks c.places.mark c.places.invariant.following (omega arith) in
    omega arith

pub index-requires-in-places : goal.index-requires-in-places
index-requires-in-places c =
    let f = c.places.invariant.following in
    let on = leads_on c.args.bodies.now.earlier.items c.places.mark f.left (omega arith) f.leads in
    let inside = on.inside in
    omega (arith, c.args.bodies.now.earlier.ok.0)

pub places-smaller : goal.places-smaller
places-smaller c =
    let f = c.places.invariant.following in
    let earlier = c.args.bodies.now.earlier.items in
    let on = leads_on earlier c.places.mark f.left (omega arith) f.leads in
    let read = get_or_read earlier (c.places.mark - 1) c.index-in-places.result.now on.inside c.index-in-places.ensures 0 in
    let low = on.low in
    omega arith

pub places-preserved : goal.places-preserved
places-preserved c =
    let s = c.places.invariant in
    let f = s.following in
    let n = (c.places.mark - 1) / 2 in
    let cs = c.args.clauses.now in
    let d = get_or cs n spare in
    let inside = following_inside c.args.clauses.now c.places.self.facts c.places.self.found.items c.args.bodies.now.earlier.items (c.args.place + 1) c.places.self.looks c.places.mark c.places.invariant.following (omega arith) c.requires.linked.size in
    let within = c.requires.within n spare inside in
    let below : d.head < length c.places.self.facts = rw s.count within.head in
    let earlier = c.args.bodies.now.earlier.items in
    let on = leads_on earlier c.places.mark f.left (omega arith) f.leads in
    let read = get_or_read earlier (c.places.mark - 1) c.index-in-places.result.now on.inside c.index-in-places.ensures 0 in
    let looked = c.look.ensures.effect in
    record {
      count = looks_size d n c.places.self.facts c.places.self.found.items c.look.new.self.facts c.look.new.self.found.items looked ∙ s.count;
      following = rw (read, c.look.ensures.looks) (following_looked cs c.places.self.facts c.places.self.found.items earlier (c.args.place + 1) c.places.self.looks c.places.mark f (omega arith)
          d c.look.new.self.facts c.look.new.self.found.items (slice_get-get_or cs n spare inside) below looked);
      capacity = c.look.ensures.capacity ∙ s.capacity;
    }

pub returns-clause-closing : goal.returns-clause-closing
returns-clause-closing c =
    following_end c.args.clauses.now c.places.self.facts c.places.self.found.items c.args.bodies.now.earlier.items (c.args.place + 1) c.places.self.looks c.places.mark c.places.invariant.following (omega arith)
