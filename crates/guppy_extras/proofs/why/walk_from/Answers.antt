use Rattle.std.proofs.Common.{◌∙◌, length, subst}
use Rattle.guppy_graph.specs.Ids.{ix_position}
use Rattle.guppy.specs.Views.{package_position}
use Rattle.guppy.specs.declared.metadata.PackageMetadata.{PackageMetadata}
use Rattle.guppy_extras.specs.Walk.{NoneShorter}
use Rattle.guppy_extras.specs.Searches.{links_beside}
use Rattle.guppy_extras.proofs.FoundWalks.{shortest_at}
use Rattle.guppy_extras.proofs.why.walk_from.Goals as goal

pub returns-in-Some-clause-shortest : goal.returns-in-Some-clause-shortest
returns-in-Some-clause-shortest c =
    let place = rw c.in-Some.is at c.in_ok-place.ensures.place in
    let walk = c.in_ok-walk_to-in-Some.ensures.walk in
    let count = length c.in_ok-walk_to-in-Some.field-0.items in
    subst (λ (m : PackageMetadata). NoneShorter (links_beside m) (package_position m) (ix_position c.args.end) count) (c.find.ensures.start ∙ c.in_ok-search.ensures.start)
    (shortest_at c.find.new.self (ix_position c.args.end) c.in-Some.place count walk.0 place walk.1 walk.2)
