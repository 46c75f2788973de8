use Rattle.std.proofs.Common.{◌≡◌, ℕ, All, slice_get}
use Rattle.std.specs.Prelude.{IsSomeAnd}
use Rattle.std.specs.List.{filter_map}
use Rattle.guppy_graph.specs.Indexes.{IsTargetIndex}
use Rattle.guppy_graph.specs.First.{IsFirstWithout}
use Rattle.guppy_graph.specs.Verified.{HasFittingKind, AreKindsFitting, IsFirstMisfit}
use Rattle.guppy_graph.proofs.Lists.{MatchOption-along, some_at, of_some}
use Rattle.guppy_graph.proofs.TargetLists.{targets_below, targets_by_id}
use Rattle.guppy_graph.proofs.VerifiedGraphs.{all_read, first_read, listed_fit}
use Rattle.guppy_graph.proofs.graph.RecordGraph.misfit_of_package.Goals as goal

pub first_misfit-requires : goal.first_misfit-requires
first_misfit-requires c =
    let r = some_at c.args.self.now.packages c.args.position c.requires in
    let same : c.targets_of.result.now ≡ r.0.build_targets.items = rw r.1 at c.targets_of.ensures.targets in
    let up : IsTargetIndex r.0.build_targets.items c.targets_by_id.result.now = rw r.1 at c.targets_by_id.ensures in
    rw same (targets_below r.0.build_targets.items c.targets_by_id.result.now up)

pub returns : goal.returns
returns c =
    let packages = c.args.self.now.packages in
    let r = some_at packages c.args.position c.requires in
    let targets = c.targets_of.result.now in
    let same : targets ≡ r.0.build_targets.items = rw r.1 at c.targets_of.ensures.targets in
    let places = c.targets_by_id.result.now in
    let up : IsTargetIndex targets places = rw (r.1, ← same) at c.targets_by_id.ensures in
    let by_id = targets_by_id targets places up c.targets_of.ensures.distinct in
    let P : ℕ → Type 0 = λ p. IsSomeAnd (slice_get targets p) HasFittingKind in
    MatchOption-along c.first_misfit.result (All P places) _ (IsFirstWithout P places) _
    (λ all. of_some (slice_get packages c.args.position) AreKindsFitting r.0 r.1 (rw (← same) (listed_fit targets (filter_map (slice_get targets) places) by_id (all_read HasFittingKind targets places all))))
    (λ place first. of_some (slice_get packages c.args.position) (λ q. IsFirstMisfit q place) r.0 r.1
    (record { listed = filter_map (slice_get targets) places; by_id = rw (← same) by_id; first = first_read HasFittingKind targets places place (targets_below targets places up) first }))
    c.first_misfit.ensures
