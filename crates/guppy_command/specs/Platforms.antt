-- Platforms that are asked about.
use Rattle.std.specs.Prelude.{◌≡◌, ℕ, List}
use Rattle.std.specs.Str.Lines.{lines}
use Rattle.guppy_target.specs.Platform.{PlatformData, AreLines}

-- the platform is called so, and what is set there is what these bytes say, line by line
pub record IsPlatform (triple cfgs : List ℕ) (platform : PlatformData) : Type 0 where
  pub named : platform.triple ≡ triple
  pub set : AreLines (lines cfgs) platform.settings
