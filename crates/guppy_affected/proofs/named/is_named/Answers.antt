use Rattle.std.proofs.Common.{refl, subst, sym, Contains}
use Rattle.guppy.specs.Views.{graph_of, package_position}
use Rattle.guppy_affected.proofs.IdSets.{set_has, told}
use Rattle.guppy_affected.proofs.Local.{id_at}
use Rattle.guppy_affected.proofs.named.is_named.Goals as goal

pub returns : goal.returns
returns c =
    let packages = (graph_of c.args.metadata).now.packages in
    let p = package_position c.args.metadata in
    let ids = c.args.ids.now in
    let own = c.id.result in
    let has = set_has ids own in (
      λ h. (own.now, has.0 (c.contains.ensures.0 h), (id_at packages own.now own.now p c.id.ensures).1 refl),
      λ (id, there, its). c.contains.ensures.1 (has.1 (subst (Contains (told ids)) (sym ((id_at packages own.now id p c.id.ensures).0 its)) there)),
    )
