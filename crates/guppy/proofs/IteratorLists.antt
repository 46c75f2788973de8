-- Lists that iterators give.
use Rattle.std.proofs.Common.{◌≡◌, ◌∙◌, ◌-◌, length}
use Rattle.std.specs.List.{range_with_len}
use Rattle.std.proofs.lemmas.List.{length-map}
use Rattle.std.proofs.lemmas.List.FromFn.{length-range_with_len}
use Rattle.guppy.specs.declared.package_graph.graph.AllPackages.{AllPackages}
use Rattle.guppy.specs.Iterators.{packages_left}

-- how many packages are still to come
pub packages_left-count : (s : AllPackages) → length (packages_left s) ≡ s.rest.end - s.rest.start
packages_left-count s = length-map (range_with_len s.rest.start (s.rest.end - s.rest.start)) (λ p. (s.graph, p)) ∙ length-range_with_len s.rest.start (s.rest.end - s.rest.start)
