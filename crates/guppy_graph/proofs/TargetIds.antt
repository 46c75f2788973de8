-- Build targets with an ID.
use Rattle.std.proofs.Common.{◌≡◌, ◌∙◌, sym, ap, refl, subst, arith, ℕ, List, length, Option, Some, None, slice_get}
use Rattle.std.specs.Prelude.{IsSomeAnd, option_map}
use Rattle.std.specs.declared.cmp.Ordering.TheVariants.{Equal}
use Rattle.std.specs.Ordering.{nat_cmp}
use Rattle.std.specs.Cmp.Lexicographic.{slice_cmp}
use Rattle.std.proofs.lemmas.Cmp.{nat_list_cmp_total, tied_itself}
use Rattle.std.proofs.lemmas.Option.{slice_get_within}
use Rattle.guppy_data.specs.declared.records.BuildTargetRecord.{BuildTargetRecord}
use Rattle.guppy_data.specs.BuildTargetId.{TargetId, recorded_id}
use Rattle.guppy_data.specs.SameTargetId.{same_id}
use Rattle.guppy_graph.specs.Keys.{HasKey, DifferBelow, IsFirstRepeat}
use Rattle.guppy_graph.specs.Targets.{target_key, target_at, HasTarget}
use Rattle.guppy_graph.proofs.Lists.{some_of}
use Rattle.guppy_graph.proofs.KeyIndexes.{exact_there, exact_back}

-- IDs with the same key are the same
pub same_key : (a b : TargetId) → target_key a ≡ target_key b → a ≡ b
same_key a b same = same_id a b (subst (λ key. slice_cmp nat_cmp (target_key a) key ≡ Equal) same (tied_itself nat_list_cmp_total (target_key a)))

owner_of : (o : Option BuildTargetRecord) (key : List ℕ) → IsSomeAnd (option_map (λ r. target_key (recorded_id r.id)) o) (λ own. own ≡ key) → (id : TargetId) × (target_key id ≡ key) × IsSomeAnd o (λ r. recorded_id r.id ≡ id)
owner_of None key h = absurd h
owner_of (Some r) key h = (recorded_id r.id, h, refl)

own_key : (o : Option BuildTargetRecord) (id : TargetId) → IsSomeAnd o (λ r. recorded_id r.id ≡ id) → IsSomeAnd (option_map (λ r. target_key (recorded_id r.id)) o) (λ own. own ≡ target_key id)
own_key None id h = absurd h
own_key (Some r) id h = ap target_key h

module _ (targets : List BuildTargetRecord) where
  target_of : (key : List ℕ) (t : ℕ) → HasKey (slice_cmp nat_cmp) (target_at targets) key t → (id : TargetId) × (target_key id ≡ key) × HasTarget targets id t
  target_of key t h = owner_of (slice_get targets t) key (exact_there (target_at targets) key t h)

  key_of : (id : TargetId) (t : ℕ) → HasTarget targets id t → HasKey (slice_cmp nat_cmp) (target_at targets) (target_key id) t
  key_of id t h = exact_back (target_at targets) (target_key id) t (own_key (slice_get targets t) id h)

  pub targets_differ : (n : ℕ) → DifferBelow (HasKey (slice_cmp nat_cmp) (target_at targets)) n → DifferBelow (HasTarget targets) n
  targets_differ n differ i j id below_i below_j h k = differ i j (target_key id) below_i below_j (key_of id i h) (key_of id j k)

  pub keys_differ : (n : ℕ) → DifferBelow (HasTarget targets) n → DifferBelow (HasKey (slice_cmp nat_cmp) (target_at targets)) n
  keys_differ n differ i j key below_i below_j h k =
      let a = target_of key i h in
      let b = target_of key j k in
      differ i j a.0 below_i below_j a.2 (subst (λ id. HasTarget targets id j) (same_key b.0 a.0 (b.1 ∙ sym a.1)) b.2)

  pub target_repeats : (t : ℕ) → IsFirstRepeat (HasKey (slice_cmp nat_cmp) (target_at targets)) t → IsFirstRepeat (HasTarget targets) t
  target_repeats t r =
      let here = target_of r.repeat.key t r.repeat.here in
      let there = target_of r.repeat.key r.repeat.earlier r.repeat.there in
      record {
        repeat = record {
          key = here.0;
          here = here.2;
          earlier = r.repeat.earlier;
          is_earlier = r.repeat.is_earlier;
          there = subst (λ id. HasTarget targets id r.repeat.earlier) (same_key there.0 here.0 (there.1 ∙ sym here.1)) there.2;
        };
        differ = targets_differ t r.differ;
      }

  -- where a target repeats an ID, the IDs aren't different
  pub repeat_not_distinct : (t : ℕ) → IsFirstRepeat (HasTarget targets) t → DifferBelow (HasTarget targets) (length targets) → ⊥
  repeat_not_distinct t r differ =
      let at = some_of (slice_get targets t) _ r.repeat.here in
      let within = slice_get_within targets t at.0 at.1 in
      let later = r.repeat.is_earlier in
      let same = differ r.repeat.earlier t r.repeat.key (omega arith) within r.repeat.there r.repeat.here in
      absurd (omega arith)
