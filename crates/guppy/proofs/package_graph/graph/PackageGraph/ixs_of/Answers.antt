use Rattle.std.proofs.lemmas.List.{map_push}
use Rattle.std.proofs.lemmas.Result.{err_from_is_err_and}
use Rattle.indexmap.proofs.SetLemmas.{AllZip-push}
use Rattle.guppy_graph.proofs.Lists.{All-from_AllZip}
use Rattle.guppy_graph.proofs.UnknownTexts.{NamesText-along, first_unknown-next}
use Rattle.guppy.specs.Read.{HasSome}
use Rattle.guppy.proofs.package_graph.graph.PackageGraph.ixs_of.Goals as goal

pub returns-in_err-ix_in-clause-unknown : goal.returns-in_err-ix_in-clause-unknown
returns-in_err-ix_in-clause-unknown g c =
    let At = g.N.NamesPackage.at c.args.self.now.packages in
    let p = err_from_is_err_and c.from_residual.result c.from_residual.ensures.1 in
    rw (p.1, p.2) (NamesText-along g.N.NamesPackage.named _ _ _
    (λ text first. first_unknown-next (HasSome At) g.I.Iterator.next_gives g.N.NamesPackage.text c.args.names c.loop-name.name-iterator c.next.new.self c.loop-name.yielded c.in-Some.name text (rw c.into_iter-name-iterator.ensures.into_iter_gives at c.loop-name.yielded_by) c.in-Some.ensures.steps (All-from_AllZip At _ _ c.loop-name.invariant) first)
    c.in_err-ix_in.ensures.unknown)

pub loop-name-preserved : goal.loop-name-preserved
loop-name-preserved g c =
    rw (map_push, c.in_ok-push.ensures.items, map_push) (AllZip-push (g.N.NamesPackage.at c.args.self.now.packages) _ _ _ _ c.loop-name.invariant c.in_ok-ix_in.ensures.found)
