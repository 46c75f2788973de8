use Rattle.std.proofs.Common.{◌≡◌, ◌∙◌, rules}
use Rattle.std.proofs.lemmas.Iterator.{cases_from_any, YieldsList-from_slice}
use Rattle.guppy_data.specs.BuildTargetId.{Library, recorded_id}
use Rattle.guppy_data.specs.BuildTargetKind.{ProcMacro, recorded_kind}
use Rattle.guppy_data.specs.declared.records.BuildTargetRecord.{BuildTargetRecord}
use Rattle.guppy.proofs.Searches.{search-tells_Any}
use Rattle.guppy.proofs.metadata.PackageMetadata.is_proc_macro.Goals as goal

pub returns : goal.returns
returns c =
    let P : BuildTargetRecord → Type 0 = λ t. (recorded_id t.id ≡ Library) × (recorded_kind t.kind ≡ ProcMacro) in
    let targets = c.record.result.now.build_targets.items in
    let cases = cases_from_any _ _ _ P (λ t. P t → ⊥) c.any.ensures.ran (YieldsList-from_slice targets (c.iter.ensures.rest ∙ c.deref.ensures.value)) (λ x q k. search rules) (λ x q k. search rules) in
    rw c.record.ensures (search-tells_Any P c.any.result targets cases)
