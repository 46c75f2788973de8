-- IDs that a query is given, and what was given where nothing is left.
use Rattle.std.proofs.Common.{◌≡◌, ◌↔◌, ℕ, zero, arith, List, [], ◌∷◌, length, map, take, drop, refl, sym, subst, None, Ok, Err}
use Rattle.std.specs.Prelude.{Contains, Option, Result, IfOk, All}
use Rattle.std.specs.Iterator.{Drains, Yields, YieldsFirstBy}
use denote.Ref.{Bor}
use Rattle.std.proofs.lemmas.List.{take-append-drop}
use Rattle.std.proofs.lemmas.List.Elements.{All-contains, Contains-append_right}
use Rattle.std.proofs.lemmas.Iterator.{YieldsList}
use Rattle.std.proofs.lemmas.Iterator.Consumers.{YieldsList-from_first, YieldsList-so_far, YieldsList-end}
use Rattle.guppy_data.specs.declared.texts.error.Error.{Error}
use Rattle.guppy_data.specs.declared.texts.error.Error.TheVariants.{PackageGraphConstructError, UnknownPackageId, UnknownFeatureId, UnknownWorkspacePath, UnknownWorkspaceName, PackageGraphInternalError, FeatureGraphInternalError, OutOfMemory}
use Rattle.guppy_data.specs.declared.records.PackageRecord.{PackageRecord}
use Rattle.guppy_graph.specs.Ids.{IsKnown}
use Rattle.guppy_graph.specs.Refused.{NamesId, named_id, IsFirstUnknown, EndsInUnknown}
use Rattle.guppy_graph.proofs.UnknownTexts.{NamesText-along, first_unknown-read}
use Rattle.guppy.specs.Read.{ReadsTo, text_now}

-- where no item is left, all that were left at first were given
pub all_given : {S A B : Type 0} (view : A → B) (rest : S → List B) (s t u : S) (given : List A) → Yields (YieldsFirstBy view rest) s given t → YieldsFirstBy view rest t None u → map view given ≡ rest s
all_given view rest s t u given gave step = (YieldsList-end (YieldsList-from_first view rest {s = s} (rest s) refl) given t gave None u refl step).0

module _ {S : Type 0} (steps : S → Option (Bor (List ℕ)) → S → Type 0) (s : S) (ids : List (List ℕ)) (road : YieldsList steps (λ r. r.now) s ids) where
  -- what was given to the end is the list
  pub drained_ids : (named : List (Bor (List ℕ))) → Drains steps s named → map (λ r. r.now) named ≡ ids
  drained_ids named d = (YieldsList-end road named d.1.0 d.1.1 None d.0 refl d.1.2).0

  -- the first unknown ID of what was given is that of the list
  pub first_unknown-given : (packages : List PackageRecord) (e : Error)
      → NamesId (ReadsTo steps text_now s (EndsInUnknown packages)) e
      → NamesId (IsFirstUnknown packages ids) e
  first_unknown-given packages e names =
      NamesText-along named_id (ReadsTo steps text_now s (EndsInUnknown packages)) (IsFirstUnknown packages ids) e
      (λ id n. subst (λ l. IsFirstUnknown packages l id) (take-append-drop (length n.0) ids)
      (first_unknown-read (IsKnown packages) (take (length n.0) ids) (drop (length n.0) ids) id
      (subst (λ l. EndsInUnknown packages l id) (YieldsList-so_far road n.0 n.1 n.2) n.3))) names

-- where each ID is known, the error that names an unknown one tells that memory ran out
pub none_unknown : (packages : List PackageRecord) (ids : List (List ℕ)) → All (IsKnown packages) ids → (error : Error) → NamesId (IsFirstUnknown packages ids) error → error ≡ OutOfMemory
none_unknown packages ids known (UnknownPackageId id) first =
    absurd (first.unknown (All-contains (IsKnown packages) ids id known (subst (λ l. Contains l id) (sym first.place) (Contains-append_right first.before (id ∷ first.after) id (zero, omega arith, refl)))))
none_unknown packages ids known (PackageGraphConstructError fault) first = absurd first
none_unknown packages ids known (UnknownFeatureId id feature) first = absurd first
none_unknown packages ids known (UnknownWorkspacePath path) first = absurd first
none_unknown packages ids known (UnknownWorkspaceName name) first = absurd first
none_unknown packages ids known (PackageGraphInternalError fault) first = absurd first
none_unknown packages ids known (FeatureGraphInternalError text) first = absurd first
none_unknown packages ids known OutOfMemory first = refl

-- two facts of a value make a third
pub IfOk-both : {T E : Type 0} (result : Result T E) (P Q R : T → Type 0) → ((x : T) → P x → Q x → R x) → IfOk result P → IfOk result Q → IfOk result R
IfOk-both (Ok x) P Q R both p q = both x p q
IfOk-both (Err e) P Q R both p q = tt

pub iff_trans : {A B C : Type 0} → A ↔ B → B ↔ C → A ↔ C
iff_trans ab bc = (λ a. bc.0 (ab.0 a), λ c. ab.1 (bc.1 c))
