use Rattle.std.proofs.Common.{◌≡◌, ◌≢◌, ◌∙◌, ℕ, List, sym, subst, refl, inl, inr, ⊎_elim, codes, arith}
use Rattle.std.specs.Prelude.{◌↔◌}
use Rattle.std.specs.Str.{IsUtf8}
use Rattle.guppy_data.specs.declared.records.Details.{Details}
use Rattle.guppy_metadata.specs.declared.fault.MetadataFault.{MetadataFault}
use Rattle.guppy_metadata.specs.declared.fault.MetadataFault.TheVariants.{NotJson, NotResolved, Missing, WrongKind, BadText, OutOfMemory}
use Rattle.guppy_metadata.specs.Fault.{IsNotJson, IsNotResolved, IsOutOfMemory, fault_text}
use Rattle.guppy_metadata.specs.Records.{IsMetadataFault, IsUnresolved}
use Rattle.guppy_c.specs.Records.{IsNoJson, details_of, kind_of}
use Rattle.guppy_c.proofs.records.guppy_records.Goals as goal

-- a fault of another status is no want of memory
not_memory : (fault : MetadataFault) → kind_of fault ≢ 3 → ¬ IsOutOfMemory fault
not_memory (NotJson line column) other memory = memory
not_memory NotResolved other memory = memory
not_memory (Missing place) other memory = memory
not_memory (WrongKind place wanted) other memory = memory
not_memory (BadText place why) other memory = memory
not_memory OutOfMemory other memory = other refl

tells_no_json : (fault : MetadataFault) → (kind_of fault ≡ 4) ↔ IsNotJson fault
tells_no_json (NotJson line column) = (λ is. tt, λ told. refl)
tells_no_json NotResolved = (λ is. omega (arith, is), λ told. absurd told)
tells_no_json (Missing place) = (λ is. omega (arith, is), λ told. absurd told)
tells_no_json (WrongKind place wanted) = (λ is. omega (arith, is), λ told. absurd told)
tells_no_json (BadText place why) = (λ is. omega (arith, is), λ told. absurd told)
tells_no_json OutOfMemory = (λ is. omega (arith, is), λ told. absurd told)

tells_unresolved : (fault : MetadataFault) → (kind_of fault ≡ 5) ↔ IsNotResolved fault
tells_unresolved (NotJson line column) = (λ is. omega (arith, is), λ told. absurd told)
tells_unresolved NotResolved = (λ is. tt, λ told. refl)
tells_unresolved (Missing place) = (λ is. omega (arith, is), λ told. absurd told)
tells_unresolved (WrongKind place wanted) = (λ is. omega (arith, is), λ told. absurd told)
tells_unresolved (BadText place why) = (λ is. omega (arith, is), λ told. absurd told)
tells_unresolved OutOfMemory = (λ is. omega (arith, is), λ told. absurd told)

-- what is read of the text, with these details, is read of the bytes, as the flag asks
read_so : (details asked : Details) (text json : List ℕ) (fault : MetadataFault) → details ≡ asked → text ≡ json
    → (¬ IsOutOfMemory fault → IsMetadataFault details text fault) → ¬ IsOutOfMemory fault → IsMetadataFault asked json fault
read_so details asked text json fault is same told other =
    subst (λ details. IsMetadataFault details json fault) is (subst (λ text. IsMetadataFault details text fault) same (told other))

-- of text that is refused with this status
module _ (details : Details) (json : List ℕ) (fault : MetadataFault) (status : ℕ) (text : IsUtf8 json) (misread : ¬ IsOutOfMemory fault → IsMetadataFault details json fault) (kind : status ≡ kind_of fault) (other : status ≢ 3) where
  no_want : ¬ IsOutOfMemory fault
  no_want = not_memory fault (λ is. other (kind ∙ is))

  exactly_no_json : (status ≡ 4) ↔ IsNoJson json
  exactly_no_json = (
    λ is. inr ((misread no_want).no_json.0 ((tells_no_json fault).0 (sym kind ∙ is))),
    λ none. kind ∙ (tells_no_json fault).1 ((misread no_want).no_json.1 (⊎_elim (λ no_text. absurd (no_text text)) (λ none. none) none)),
  )

  exactly_unresolved : (status ≡ 5) ↔ (IsUtf8 json × IsUnresolved json)
  exactly_unresolved = (
    λ is. (text, (misread no_want).not_resolved.0 ((tells_unresolved fault).0 (sym kind ∙ is))),
    λ has. kind ∙ (tells_unresolved fault).1 ((misread no_want).not_resolved.1 has.1),
  )

pub returns-in_default-clause-no_room : goal.returns-in_default-clause-no_room
returns-in_default-clause-no_room c is = (
  c.put.ensures.no_room is,
  codes "the input is no UTF-8",
  sym c.put.ensures.len,
  inr (4, inl (c.in_default.ensures, refl, refl)),
)

pub returns-in-Err-clause-no_json : goal.returns-in-Err-clause-no_json
returns-in-Err-clause-no_json c answered no_room no_memory =
    let told = read_so _ _ _ _ c.in-Err.fault c.details_of.ensures c.in-Ok.ensures.0 c.in-Err.ensures.refused in
    exactly_no_json (details_of c.args.details) c.args.json.now c.in-Err.fault c.refuse.result.status c.in-Ok.ensures.1 told (c.refuse.ensures.kind no_room no_memory) no_memory

pub returns-in-Err-clause-unresolved : goal.returns-in-Err-clause-unresolved
returns-in-Err-clause-unresolved c answered no_room no_memory =
    let told = read_so _ _ _ _ c.in-Err.fault c.details_of.ensures c.in-Ok.ensures.0 c.in-Err.ensures.refused in
    exactly_unresolved (details_of c.args.details) c.args.json.now c.in-Err.fault c.refuse.result.status c.in-Ok.ensures.1 told (c.refuse.ensures.kind no_room no_memory) no_memory

pub returns-in-Err-clause-no_records : goal.returns-in-Err-clause-no_records
returns-in-Err-clause-no_records c is =
    let kind : c.refuse.result.status ≡ kind_of c.in-Err.fault = c.refuse.ensures.kind (omega (arith, is)) (omega (arith, is)) in
    let told = read_so _ _ _ _ c.in-Err.fault c.details_of.ensures c.in-Ok.ensures.0 c.in-Err.ensures.refused in
    (told (not_memory c.in-Err.fault (omega (arith, is, kind)))).no_records

pub returns-in-Err-clause-no_room : goal.returns-in-Err-clause-no_room
returns-in-Err-clause-no_room c is = (
  c.refuse.ensures.no_room is,
  fault_text c.in-Err.fault,
  sym (c.refuse.ensures.len is),
  inr (
    kind_of c.in-Err.fault,
    inr (
      c.in-Err.fault,
      read_so _ _ _ _ c.in-Err.fault c.details_of.ensures c.in-Ok.ensures.0 c.in-Err.ensures.refused,
      refl,
      refl,
    ),
  ),
)
