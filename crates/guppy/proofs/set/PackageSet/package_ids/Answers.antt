use Rattle.std.proofs.Common.{◌∙◌, ap}
use Rattle.std.specs.List.{filter_map}
use Rattle.guppy.specs.Listed.{id_of, positions_listed}
use Rattle.guppy.proofs.SetLists.{ids_of_seen, listed_ids_left-count}
use Rattle.guppy.proofs.set.PackageSet.package_ids.Goals as goal

pub returns-clause-left : goal.returns-clause-left
returns-clause-left c = ap (filter_map id_of) c.packages.ensures.left ∙ ids_of_seen c.args.self.now.graph (positions_listed c.args.direction c.args.self.now)

pub returns-clause-count : goal.returns-clause-count
returns-clause-count c = listed_ids_left-count (record { packages = c.packages.result }) ∙ c.packages.ensures.count
