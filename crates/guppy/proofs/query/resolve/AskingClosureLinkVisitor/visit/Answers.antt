use Rattle.std.proofs.Common.{refl}
use Rattle.guppy.proofs.query.resolve.AskingClosureLinkVisitor.visit.Goals as goal

pub call-requires : goal.call-requires
call-requires g c = λ k. ((refl, tt), c.requires.1 _ c.link_at-link.result refl c.link_at-link.ensures)

pub returns-clause-visits : goal.returns-clause-visits
returns-clause-visits g c = ((c.args.self.now.context, c.link_at-link.result, c.call.ensures, refl, c.link_at-link.ensures), refl)
