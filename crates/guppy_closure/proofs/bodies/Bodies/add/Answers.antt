use Rattle.std.proofs.Common.{◌≡◌, ◌+◌, ◌<◌, length, get_or, arith}
use Rattle.std.proofs.lemmas.List.{get_or_read}
use Rattle.guppy_closure.proofs.Linked.{linked_skip, linked_more}
use Rattle.guppy_closure.proofs.bodies.Bodies.add.Goals as goal

pub returns-in_default-clause-linked : goal.returns-in_default-clause-linked
returns-in_default-clause-linked c = λ facts linked. rw (c.in_default.is, c.push_reserved.ensures.items) (linked_skip facts c.args.self.now.last.items c.args.self.now.earlier.items linked)

pub returns-clause-linked : goal.returns-clause-linked
returns-clause-linked c = λ facts linked.
    let last = c.args.self.now.last.items in
    let earlier = c.args.self.now.earlier.items in
    let low : c.in-Some.fact < length last = c.requires.within c.in-Some.fact c.in-Some.is in
    let read : c.index.result.now ≡ get_or last c.in-Some.fact 0 = get_or_read last c.in-Some.fact c.index.result.now low c.index.ensures 0 in
    let len : c.len.result ≡ length earlier + 1 = omega (arith, c.args.self.now.earlier.ok.0) in
    rw (c.in-Some.is, c.push_reserved-2.ensures.items, read, len) (linked_more facts last earlier c.in-Some.fact low linked)
