use Rattle.std.proofs.Common.{◌≡◌, ℕ, List, sym, subst}
use Rattle.guppy_data.specs.declared.records.Details.{Details}
use Rattle.guppy_metadata.specs.declared.fault.MetadataFault.{MetadataFault}
use Rattle.guppy_metadata.specs.declared.fault.MetadataFault.TheVariants.{NotJson, NotResolved, Missing, WrongKind, BadText, OutOfMemory}
use Rattle.guppy_metadata.specs.Fault.{IsOutOfMemory}
use Rattle.guppy_metadata.specs.Records.{IsMetadataFault}
use Rattle.guppy_metadata.proofs.Refused.{of_error}
use Rattle.guppy_print.specs.Format.{IsReadingFault}
use Rattle.guppy_arguments.specs.Fault.{cause_of, of_metadata}
use Rattle.guppy_cargo.specs.Json.{json_format}
use Rattle.guppy_cargo.proofs.input.JsonFormat.records_of.Goals as goal

misread : (details : Details) (input : List ℕ) (fault : MetadataFault) → (¬ IsOutOfMemory fault → IsMetadataFault details input fault)
    → IsReadingFault json_format details input (of_metadata fault) (cause_of (of_metadata fault))
misread details input (NotJson line column) is = is (λ no. no)
misread details input NotResolved is = is (λ no. no)
misread details input (Missing place) is = is (λ no. no)
misread details input (WrongKind place wanted) is = is (λ no. no)
misread details input (BadText place why) is = is (λ no. no)
misread details input OutOfMemory is = tt

pub returns-in_err-records_with-clause-refused : goal.returns-in_err-records_with-clause-refused
returns-in_err-records_with-clause-refused c =
    let details = c.args.details in
    let input = c.args.input.now in
    let same : c.in-Ok.text.now ≡ input = c.in-Ok.ensures.0 in
    let fault = c.in_err-records_with.field-0.0 in
    let is = c.in_err-records_with.ensures.refused in
    of_error _ _ _ c.from_residual.ensures (λ e gives. subst (λ e. IsReadingFault json_format details input e (cause_of e)) (sym gives)
    (misread details input _ (subst (λ text. ¬ IsOutOfMemory fault → IsMetadataFault details text fault) same is)))
