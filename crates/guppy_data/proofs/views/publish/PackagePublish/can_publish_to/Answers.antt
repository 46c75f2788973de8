use Rattle.std.specs.String.{string_bytes}
use Rattle.guppy_data.proofs.ListedNames.{search-tells_Contains}
use Rattle.guppy_data.proofs.views.publish.PackagePublish.can_publish_to.Goals as goal

pub returns-in-Registries : goal.returns-in-Registries
returns-in-Registries c =
    rw c.in-Registries.is (search-tells_Contains string_bytes c.in-Registries.names.now c.args.registry.now c.is_listed.result c.is_listed.ensures)
