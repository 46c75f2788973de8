-- What a text says of a platform, told as a number.
use Rattle.std.specs.Prelude.{◌≡◌, ◌↔◌, ℕ, ◌≤◌, List, true, false}
use Rattle.std.specs.Str.Lines.{lines}
use Rattle.guppy_target.specs.Answer.{Says}
use Rattle.guppy_target.specs.Platform.{AreLines, PlatformData}

-- of the platform with this name and these lines, the text says that it is on (2), or that it isn't (0), or neither (1)
pub record TellsWhatIsSaid (text triple cfgs : List ℕ) (value : ℕ) : Type 0 where
  pub platform : PlatformData
  pub name_is : platform.triple ≡ triple
  pub lines_are : AreLines (lines cfgs) platform.settings
  pub enabled : (value ≡ 2) ↔ Says text platform true
  pub disabled : (value ≡ 0) ↔ Says text platform false
  pub most : value ≤ 2
