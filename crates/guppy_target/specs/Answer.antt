-- What a text says of a platform.
use Rattle.std.specs.Prelude.{◌≡◌, ◌⊎◌, ℕ, List, Bool, Option, Some, None, option_map, if◌then◌else◌}
use Rattle.std.specs.List.{list_all}
use Rattle.std.specs.Str.{bytes_eq}
use Rattle.guppy_target.specs.Cfg.{Predicate, holds}
use Rattle.guppy_target.specs.Grammar.{Reads, IsTriple, is_of_triple}
use Rattle.guppy_target.specs.Reading.{inner_of, predicate_of}
use Rattle.guppy_target.specs.Platform.{PlatformData}

-- the text reads as a predicate, which holds or doesn't, or as a triple, which is the platform's or isn't
abbrev pub Says : List ℕ → PlatformData → Bool → Type 0
Says text platform b = ((p : Predicate) × Reads text p × (b ≡ holds platform.settings p))
    ⊎ (IsTriple text × (b ≡ bytes_eq text platform.triple))

abbrev pub answer_from : List ℕ → PlatformData → Option (List ℕ) → Option Bool
answer_from text platform (Some inner) = option_map (holds platform.settings) (predicate_of inner)
answer_from text platform None =
    if list_all is_of_triple text then Some (bytes_eq text platform.triple) else None

-- what is answered
unfoldable pub answer_of : List ℕ → PlatformData → Option Bool
answer_of text platform = answer_from text platform (inner_of text)
