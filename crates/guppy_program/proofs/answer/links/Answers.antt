use Rattle.std.proofs.Common.{refl, subst, List, map}
use Rattle.std.specs.List.{AllZip}
use Rattle.std.proofs.lemmas.List.{map_push}
use Rattle.indexmap.proofs.SetLemmas.{AllZip-push}
use Rattle.guppy.specs.Query.{SetData}
use Rattle.guppy.specs.Views.{LinkData, link_data}
use Rattle.guppy.specs.Walked.{AreWalkedLinks, walked_left}
use Rattle.guppy_program.specs.Answer.{IsLinkTold}
use Rattle.guppy_print.specs.Shown.{link_shown}
use Rattle.guppy_dot.proofs.GivenIds.{all_given}
use Rattle.guppy_program.proofs.WholeSet.{set_is_all}
use Rattle.guppy_program.proofs.answer.links.Goals as goal

pub loop-link-preserved : goal.loop-link-preserved
loop-link-preserved c =
    rw (map_push link_data c.loop-link.yielded c.in-Some.link, c.in_ok-push.ensures.items, map_push link_shown c.loop-link.links.items c.ends_of.result)
    (AllZip-push IsLinkTold (map link_data c.loop-link.yielded) (map link_shown c.loop-link.links.items) (link_data c.in-Some.link) (link_shown c.ends_of.result) c.loop-link.invariant c.ends_of.ensures)

pub returns-clause-ok : goal.returns-clause-ok
returns-clause-ok c =
    let all = c.in_ok-all.all in
    let walked = c.in_ok-walked.walked in
    let links = map link_shown c.loop-link.links.items in
    let gave = rw c.into_iter-link-iterator.ensures.into_iter_gives at c.loop-link.yielded_by in
    let given = all_given link_data walked_left walked _ c.next.new.self _ gave c.in-None.ensures.steps in
    record {
      walked = walked_left walked;
      exact = subst (λ (s : SetData). AreWalkedLinks c.args.direction s (walked_left walked)) (set_is_all all c.args.graph.now c.in_ok-all.ensures.graph c.in_ok-all.ensures.all) c.in_ok-walked.ensures.walked;
      links = links;
      are_told = subst (λ (those : List LinkData). AllZip IsLinkTold those links) given c.loop-link.invariant;
      told = refl;
    }
