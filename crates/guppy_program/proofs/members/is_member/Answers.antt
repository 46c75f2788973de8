use Rattle.std.proofs.Common.{sym}
use Rattle.std.proofs.lemmas.Bool.{false_from_ne_true}
use Rattle.guppy_program.specs.Answer.{is_member}
use Rattle.guppy_program.proofs.Membership.{is_member-known, known-is_member, same_truth}
use Rattle.guppy_program.proofs.members.is_member.Goals as goal

pub returns : goal.returns
returns c =
    let packages = c.args.members.now.graph.packages in
    let answer = c.in-Ok.ensures.answer in
    same_truth c.in-Ok.among (is_member packages c.args.id.now)
    (λ is. let at = answer.0 is in known-is_member c.args.id.now packages at.0 at.1 ((c.requires.members at.0).0 at.2))
    (λ is. let at = is_member-known c.args.id.now packages is in answer.1 (at.0, at.1, (c.requires.members at.0).1 at.2))

pub returns-in_default : goal.returns-in_default
returns-in_default c =
    let packages = c.args.members.now.graph.packages in
    sym (false_from_ne_true (is_member packages c.args.id.now)
    (λ is. let at = is_member-known c.args.id.now packages is in let no = c.in_default.ensures.answered (at.0, at.1) in absurd (cc no)))
