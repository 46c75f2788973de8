-- What is said of builds.
use Rattle.std.specs.Prelude.{ℕ, ◌==◌, List, not, Option, Some, None, codes, if◌then◌else◌}
use Rattle.std.specs.List.{filter, flat_map, slice_split}
use Rattle.std.specs.Str.{byte, bytes_eq}
use Rattle.guppy_features.specs.declared.options.CargoResolverVersion.{CargoResolverVersion}
use Rattle.guppy_features.specs.declared.options.CargoResolverVersion.TheVariants.{V1, V2, V3}
use Rattle.guppy_command.specs.Text.{is_empty}

-- what stands before, between and after spaces, where that is anything
abbrev pub spaced : List ℕ → List (List ℕ)
spaced text = filter (λ word. not (is_empty word)) (slice_split (λ b. b == byte " ") text)

-- what commas and spaces part
abbrev pub features_of : List ℕ → List (List ℕ)
features_of value = flat_map spaced (slice_split (λ b. b == byte ",") value)

-- `1`, `2` or `3`
abbrev pub resolver_of : List ℕ → Option CargoResolverVersion
resolver_of value = if bytes_eq value (codes "1") then Some V1
    else (if bytes_eq value (codes "2") then Some V2
    else (if bytes_eq value (codes "3") then Some V3 else None))
