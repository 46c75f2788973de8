use Rattle.std.proofs.Common.{◌∙◌, refl, sym, ap, subst}
use Rattle.guppy.proofs.query.resolve.AskingLinkVisitor.visit.Goals as goal

pub visit_link-requires : goal.visit_link-requires
visit_link-requires g c = subst (g.V.PackageLinkVisitor.can_visit c.args.self.now.visitor.now c.args.self.now.context.now) (sym c.link_at-link.ensures) c.requires.1

pub returns-clause-visits : goal.returns-clause-visits
returns-clause-visits g c =
    let at = c.link_at-link.ensures in (
      rw at at c.visit_link.ensures.visits,
      refl,
      λ m other may. c.visit_link.ensures.others _ (λ same. other (ap (λ l. l.number) (same ∙ at))) may,
    )
