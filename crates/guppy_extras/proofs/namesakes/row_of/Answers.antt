use Rattle.std.proofs.Common.{◌∙◌, [], ◌∷◌, ◌++◌, ap}
use Rattle.guppy.specs.DirectLinks.{links_left}
use Rattle.guppy_extras.proofs.LinkRows.{row_begins, row_steps, row_ends}
use Rattle.guppy_extras.proofs.namesakes.row_of.Goals as goal

pub links-init : goal.links-init
links-init c =
    row_begins c.args.«package» c.push.new.self.items c.id.result _
    (c.in_ok-push.ensures.items ∙ ap (λ row. row ++ c.id.result ∷ []) c.new-row.ensures.items)
    c.id.ensures
    (ap links_left c.into_iter-link-iterator.ensures.into_iter_gives ∙ c.reverse_direct_links-link-items.ensures)

pub links-preserved : goal.links-preserved
links-preserved c =
    row_steps _ _ _ _ _ c.in-Some.link c.from.result c.id-in-links.result c.links.invariant c.in-Some.ensures.steps c.in_ok-push-2.ensures.items
    c.from.ensures.graph c.from.ensures.position c.id-in-links.ensures

pub returns : goal.returns
returns c = row_ends _ _ _ c.links.invariant c.in-None.ensures.steps.0
