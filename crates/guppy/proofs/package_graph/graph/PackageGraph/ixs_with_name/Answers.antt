use Rattle.std.proofs.Common.{◌≡◌, ◌<◌, refl, subst, length, map, arith}
use Rattle.std.proofs.lemmas.List.{map_push}
use Rattle.guppy_graph.specs.Ids.{ix_position}
use Rattle.guppy.specs.PackageNames.{HasPackageName}
use Rattle.guppy.proofs.CollectedPositions.{AreBelow-push, AreBelow-skip, AreBelow-end}
use Rattle.guppy.proofs.PackageNames.{named_within}
use Rattle.guppy.proofs.package_graph.graph.PackageGraph.ixs_with_name.Goals.{then-is_named+in_ok-push, else-is_named}
use Rattle.guppy.proofs.package_graph.graph.PackageGraph.ixs_with_name.Goals as goal

pub loop-position-preserved : goal.loop-position-preserved
loop-position-preserved c =
    let P = HasPackageName c.args.self.now.packages c.args.name.now in
    let found = map ix_position c.loop-position.found.items in
    let position = c.loop-position.position in
    elim c.if-is_named.branch [
      | then-is_named+in_ok-push w ↦
          let at : ix_position w.ix_at.result ≡ position = w.ix_at.ensures in
          rw (w.found-is, w.in_ok-push.ensures.items, map_push, at) (AreBelow-push P found position c.loop-position.invariant (w.if-is_named.ensures.0 refl))
      | else-is_named w ↦ rw w.found-is (AreBelow-skip P found position c.loop-position.invariant (λ has. let no_ = w.if-is_named.ensures.1 has in absurd (cc)))
    ]

pub returns : goal.returns
returns c =
    let all : length c.args.self.now.packages ≡ c.loop-position.position = omega (arith, c.package_count-position-end.ensures, c.loop-position-test.false, c.loop-position.auto.position-end) in
    AreBelow-end (HasPackageName c.args.self.now.packages c.args.name.now) (map ix_position c.loop-position.found.items) c.loop-position.position c.loop-position.invariant
    (λ p has. subst (λ n. p < n) all (named_within c.args.self.now.packages c.args.name.now p has))
