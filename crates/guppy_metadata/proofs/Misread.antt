-- Whatever fault a text is refused with: what each clause says of it, together.
use Rattle.std.proofs.Common.{◌≡◌, ℕ, List, Result, Ok, Err, IfErr, None}
use Rattle.std.specs.Prelude.{◌↔◌}
use Rattle.json.specs.Json.{document}
use Rattle.guppy_data.specs.declared.records.Details.{Details}
use Rattle.guppy_metadata.specs.declared.fault.MetadataFault.{MetadataFault}
use Rattle.guppy_metadata.specs.Fault.{IsNotJson, IsNotResolved, IsOutOfMemory}
use Rattle.guppy_metadata.specs.Records.{IsMetadataFault, IsUnresolved, SaysNoRecordsWith}

pub misread : {T : Type 0} (details : Details) (json : List ℕ) (r : Result T MetadataFault)
    → IfErr r (λ f. ¬ IsOutOfMemory f → IsNotJson f ↔ (document json ≡ None))
    → IfErr r (λ f. ¬ IsOutOfMemory f → IsNotResolved f ↔ IsUnresolved json)
    → IfErr r (λ f. ¬ IsOutOfMemory f → SaysNoRecordsWith details json)
    → IfErr r (λ f. ¬ IsOutOfMemory f → IsMetadataFault details json f)
misread details json (Ok records) no_json unresolved no_records = tt
misread details json (Err fault) no_json unresolved no_records = λ other. record {
  no_json = no_json other;
  not_resolved = unresolved other;
  no_records = no_records other;
}
