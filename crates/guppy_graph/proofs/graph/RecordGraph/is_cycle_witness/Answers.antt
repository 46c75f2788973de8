use Rattle.std.proofs.Common.{◌<◌, length, map, Result, Ok, Err}
use Rattle.std.specs.Prelude.{IfOk}
use Rattle.guppy_graph.specs.Ids.{HasId, ix_position}
use Rattle.guppy_graph.proofs.Lists.{All-from_AllZip_right}
use Rattle.guppy_graph.proofs.PackageIds.{within_of}
use Rattle.guppy_graph.proofs.Rounds.{firm_cycle_at, unknown_no_cycle}
use Rattle.guppy_graph.proofs.graph.RecordGraph.is_cycle_witness.Goals as goal

along : {T E : Type 0} (P Q : T → Type 0) (r : Result T E) → ((x : T) → P x → Q x) → IfOk r P → IfOk r Q
along P Q (Ok x) follows h = follows x h
along P Q (Err e) follows h = tt

pub is_firm_cycle-requires : goal.is_firm_cycle-requires
is_firm_cycle-requires c =
    let g = c.args.self.now in
    let named = rw c.in-Some.is at c.in_ok-ixs.ensures.found in
    rw c.as_slice.ensures.value (All-from_AllZip_right ix_position (HasId g.packages) (λ ix. ix_position ix < length g.packages) (λ id ix h. within_of g.packages id (ix_position ix) h) c.args.ids.now c.in-Some.ixs.items named)

pub returns-in-Some : goal.returns-in-Some
returns-in-Some c =
    let g = c.args.self.now in
    let named = rw c.in-Some.is at c.in_ok-ixs.ensures.found in
    let same = firm_cycle_at g c.in_ok-ixs.ensures.graph c.args.ids.now (map ix_position c.in-Some.ixs.items) named in
    along _ _ c.is_firm_cycle.result (λ is h. let k = rw c.as_slice.ensures.value at h in (λ t. same.0 (k.0 t), λ cycle. k.1 (same.1 cycle))) c.is_firm_cycle.ensures

pub returns-in-None : goal.returns-in-None
returns-in-None c =
    let g = c.args.self.now in
    let unknown = rw c.in-None.is at c.in_ok-ixs.ensures.found in
    (λ h. absurd (cc), λ cycle. absurd (unknown_no_cycle g c.in_ok-ixs.ensures.graph c.args.ids.now unknown cycle))
