use Rattle.std.proofs.Common.{map, take}
use Rattle.guppy_closure.specs.Named.{StandsAt}
use Rattle.guppy_closure.proofs.Renamed.{same_push}
use Rattle.guppy_platforms.specs.HostClauses.{package_clause}
use Rattle.guppy_platforms.proofs.Numbers.{text_of, grown_clauses, map_more}
use Rattle.guppy_platforms.proofs.host.package_clauses.Goals as goal

pub loop-it-preserved : goal.loop-it-preserved
loop-it-preserved c =
    let packages = c.args.packages.now in
    let l = c.loop-it in
    let k = l.it-index in
    let p = c.it-item.result in
    let before = map text_of l.ids.keys in
    let after = map text_of c.package_clause.new.ids.keys in
    let so_far = map package_clause (take k packages) in
    let made = c.in_ok-package_clause.field-0 in
    rw (map_more package_clause packages k p c.loop-it-test.true c.it-item.is, c.in_ok-push.ensures.items)
    (same_push (StandsAt after) so_far l.clauses.items (package_clause p) made (grown_clauses before after c.in_ok-package_clause.ensures.grows so_far l.clauses.items l.invariant) c.in_ok-package_clause.ensures.same)
