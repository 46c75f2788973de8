use Rattle.std.proofs.Common.{ap}
use Rattle.guppy_data.specs.Platform.{OnPlatforms}
use Rattle.guppy_data.proofs.platform.spec.PlatformSpec.platforms.Goals as goal

pub returns : goal.returns
returns g c =
    let run = c.in_ok-collect.ensures.runs tt in
    (run.0, run.1, run.2, ap OnPlatforms run.3.0)
