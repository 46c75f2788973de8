use Rattle.std.proofs.Common.{◌≡◌, ◌∙◌, ◌+◌, ◌∷◌, [], ◌++◌, map, take, ap, sym}
use Rattle.std.proofs.lemmas.List.{append_assoc}
use Rattle.guppy_closure.specs.Named.{StandsAt}
use Rattle.guppy_closure.proofs.Renamed.{same_push}
use Rattle.guppy_platforms.specs.HostClauses.{link_clause}
use Rattle.guppy_platforms.proofs.Numbers.{text_of, grown_clauses, map_more}
use Rattle.guppy_platforms.proofs.host.add_links.Goals as goal

pub loop-link-preserved : goal.loop-link-preserved
loop-link-preserved c before same =
    let links = c.args.links.now in
    let l = c.loop-link in
    let k = l.link-index in
    let d = c.link-item.result in
    let then_ids = map text_of l.ids.keys in
    let now_ids = map text_of c.link_clause.new.ids.keys in
    let so_far = before ++ map link_clause (take k links) in
    let made = c.in_ok-link_clause.field-0 in
    let next : before ++ map link_clause (take (k + 1) links) ≡ so_far ++ link_clause d ∷ [] =
    ap (λ z. before ++ z) (map_more link_clause links k d c.loop-link-test.true c.link-item.is) ∙ sym (append_assoc before (map link_clause (take k links)) (link_clause d ∷ [])) in
    rw (next, c.in_ok-push.ensures.items)
    (same_push (StandsAt now_ids) so_far l.clauses.items (link_clause d) made (grown_clauses then_ids now_ids c.in_ok-link_clause.ensures.grows so_far l.clauses.items (l.invariant before same)) c.in_ok-link_clause.ensures.same)
