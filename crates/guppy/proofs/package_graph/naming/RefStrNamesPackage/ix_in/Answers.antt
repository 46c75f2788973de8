use Rattle.guppy_graph.proofs.Membership.{name_within}
use Rattle.guppy.proofs.package_graph.naming.RefStrNamesPackage.ix_in.Goals as goal

pub ix_at-requires : goal.ix_at-requires
ix_at-requires c = name_within _ _ _ c.in-Some.ensures
