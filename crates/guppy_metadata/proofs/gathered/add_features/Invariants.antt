use Rattle.std.proofs.Common.{◌≡◌, ℕ, List, filter, map, take}
use Rattle.std.specs.List.{fold}
use Rattle.std.specs.Option.{option_copied}
use Rattle.std.specs.Str.{bytes_eq}
use Rattle.guppy_metadata.specs.Gathered.{status_at, asked_too}
use Rattle.guppy_metadata.proofs.gathered.add_features.Given as goal

abbrev pub invariant-loop-feature : goal.invariant-loop-feature
invariant-loop-feature l = (name : List ℕ) → status_at l.statuses name
    ≡ fold asked_too (status_at l.fn.statuses name) (map (λ _. option_copied l.spec) (filter (λ f. bytes_eq name f.now) (take l.feature-index l.features)))
