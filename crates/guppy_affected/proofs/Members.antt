-- The members that the changed packages affect.
use Rattle.std.proofs.Common.{◌≡◌, ◌⊎◌, inl, inr, ⊎_elim, refl, sym, subst, ℕ, Bool, List, [], length, Contains, arith}
use Rattle.std.specs.Prelude.{◌↔◌}
use Rattle.guppy_search.specs.IxSet.{IsIn, IsIntersection}
use Rattle.guppy_graph.specs.Graph.{GraphData}
use Rattle.guppy_graph.specs.Members.{IsMember}
use Rattle.guppy.specs.Query.{IsSetWhere, SetData}
use Rattle.guppy_affected.specs.Affected.{IsAffected, IsAffectedAfter, IsTestedWith, AreIdsOf}
use Rattle.guppy_affected.specs.Changed.{AreChanged}
use Rattle.guppy_affected.specs.Folders.{Given}
use Rattle.guppy_affected.specs.Named.{HasOneOf}
use Rattle.guppy_affected.specs.Tested.{AreTestedWith}

module _ (g : GraphData) (ids paths ignored : List (List ℕ)) (also : List Given) (touched both tested : SetData) (same : both.graph ≡ g) (joined : (p : ℕ) → IsIn both.included p ↔ (IsIn touched.included p ⊎ HasOneOf g.packages ids p)) (are : AreTestedWith both tested) (p : ℕ) (member : IsMember g.packages p) where
  tested_affected : AreChanged g paths ignored also touched.included → IsIn tested.included p → IsAffectedAfter g ids paths ignored also p
  tested_affected how h =
      let from = (are p).0 h in
      let way = subst (λ (h : GraphData). IsTestedWith h p from.0) same from.2 in
      ⊎_elim
      (λ inside. inl (member, ⊎_elim (λ (all, set). (all.0, all.1, all.2, inl all.3)) (λ (apart, set). let one = (set.members from.0).0 inside in (one.0, one.1, one.2, inr (from.0, one.3, way))) how))
      (λ named. inr (member, (from.0, named, way)))
      ((joined from.0).0 from.1)

  -- for a path
  path_tested : AreChanged g paths ignored also touched.included → IsAffected g paths ignored also p → IsIn tested.included p
  path_tested how (is_member, (path, there, counts, affects)) = (are p).1 (⊎_elim
      (λ (all, set). (p, (joined p).1 (inl ((set.members p).1 member)), inl refl))
      (λ (apart, set). ⊎_elim (λ everyones. absurd (apart (path, there, counts, everyones)))
      (λ (q, belongs, way). (q, (joined q).1 (inl ((set.members q).1 (path, there, counts, belongs))), subst (λ (h : GraphData). IsTestedWith h p q) (sym same) way)) affects)
      how)

  affected_tested : AreChanged g paths ignored also touched.included → IsAffectedAfter g ids paths ignored also p → IsIn tested.included p
  affected_tested how = ⊎_elim (path_tested how)
      (λ (is_member, (q, named, way)). (are p).1 (q, (joined q).1 (inr named), subst (λ (h : GraphData). IsTestedWith h p q) (sym same) way))

-- those of the packages that are tested with changed ones that are members
pub affected_members : (g : GraphData) (ids paths ignored : List (List ℕ)) (also : List Given) (touched both tested : SetData) (members affected : List Bool)
    → both.graph ≡ g → AreChanged g paths ignored also touched.included → ((p : ℕ) → IsIn both.included p ↔ (IsIn touched.included p ⊎ HasOneOf g.packages ids p)) → AreTestedWith both tested → IsSetWhere g.packages (IsMember g.packages) members
    → length affected ≡ length g.packages → IsIntersection tested.included members affected → IsSetWhere g.packages (IsAffectedAfter g ids paths ignored also) affected
affected_members g ids paths ignored also touched both tested members affected same how joined are are_members count meet = record {
  count_is = count;
  members = λ p. (
    λ h. let parts = (meet p).0 h in tested_affected g ids paths ignored also touched both tested same joined are p ((are_members.members p).0 parts.1) how parts.0,
    λ h. let member : IsMember g.packages p = ⊎_elim (λ a. a.0) (λ a. a.0) h in
        (meet p).1 (affected_tested g ids paths ignored also touched both tested same joined are p member how h, (are_members.members p).1 member),
  );
}

-- where no package is told of, those that the paths affect are all
pub without_changed : (g : GraphData) (paths ignored : List (List ℕ)) (also : List Given) (p : ℕ) → IsAffectedAfter g [] paths ignored also p ↔ IsAffected g paths ignored also p
without_changed g paths ignored also p = (
  λ h. ⊎_elim (λ a. a) (λ (member, (q, (id, (k, within, found), its), way)). absurd (omega arith)) h,
  λ a. inl a,
)

-- with more of them, those that were are affected
pub with_more : (g : GraphData) (changed more paths ignored : List (List ℕ)) (also : List Given) (p : ℕ) → ((id : List ℕ) → Contains changed id → Contains more id)
    → IsAffectedAfter g changed paths ignored also p → IsAffectedAfter g more paths ignored also p
with_more g changed more paths ignored also p all = ⊎_elim (λ a. inl a) (λ (member, (q, (id, there, its), way)). inr (member, (q, (id, all id there, its), way)))

-- the same list where the same holds
pub ids_along : (g : GraphData) {P Q : ℕ → Type 0} → ((p : ℕ) → P p ↔ Q p) → {ids : List (List ℕ)} → AreIdsOf g P ids → AreIdsOf g Q ids
ids_along g same are = record {
  order = are.order;
  is_order = record {
    once = are.is_order.once;
    members = λ p. (λ s. (same p).0 ((are.is_order.members p).0 s), λ q. (are.is_order.members p).1 ((same p).1 q));
    listed = are.is_order.listed;
    after = are.is_order.after;
  };
  ids_are = are.ids_are;
}
