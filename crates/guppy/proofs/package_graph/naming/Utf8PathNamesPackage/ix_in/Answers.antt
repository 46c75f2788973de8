use Rattle.guppy_data.specs.Utf8Path.{path_text}
use Rattle.guppy_graph.proofs.Membership.{path_within}
use Rattle.guppy.proofs.package_graph.naming.Utf8PathNamesPackage.ix_in.Goals as goal

pub ix_at-requires : goal.ix_at-requires
ix_at-requires c = path_within c.args.graph.now.packages (path_text c.args.self) c.in-Some.position c.in-Some.ensures
