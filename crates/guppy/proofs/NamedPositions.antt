-- The positions of the packages that texts name.
use Rattle.std.proofs.Common.{◌≡◌, ◌∙◌, sym, refl, subst, zero, suc, ℕ, ◌<◌, List, [], ◌∷◌, length, get_or, map, arith, Bool, All}
use Rattle.std.specs.Prelude.{IsTrue, ◌↔◌}
use Rattle.std.specs.List.{AllZip, Contains}
use Rattle.std.proofs.lemmas.List.Elements.{Contains-get_or}
use Rattle.std.proofs.Math.ListN.{get_or-map}
use Rattle.std.proofs.lemmas.List.{length-map}
use Rattle.guppy_search.specs.IxSet.{has, IsIn}
use Rattle.guppy_search.specs.declared.ix.index_type.PackageIx.{PackageIx}
use Rattle.guppy_data.specs.declared.records.PackageRecord.{PackageRecord}
use Rattle.guppy_graph.specs.Ids.{HasId, DistinctBelow, ix_position}
use Rattle.guppy_graph.specs.Keys.{DifferBelow}
use Rattle.guppy.specs.Query.{IsSetOfNamed}
use Rattle.guppy_graph.proofs.PackageIds.{position_is}

-- the package with an ID is in a set exactly where its position is
pub included_at : (packages : List PackageRecord) → DistinctBelow packages (length packages) → (included : List Bool) (id : List ℕ) (p : ℕ) → HasId packages id p → (answer : Bool) → answer ≡ has included p → IsTrue answer ↔ ((q : ℕ) × HasId packages id q × IsIn included q)
included_at packages distinct included id p found answer is = (
  λ yes_. (p, found, sym is ∙ yes_),
  λ h. is ∙ subst (λ q. IsIn included q) (position_is packages distinct id h.0 p h.1 found) h.2,
)

-- what holds of the positions holds of the indexes
pub All-ix_position : (P : ℕ → Type 0) (ixs : List PackageIx) → All P (map ix_position ixs) → All (λ ix. P (ix_position ix)) ixs
All-ix_position P ixs all = λ k d within.
    let below : k < length (map ix_position ixs) = rw (length-map ixs ix_position) within in
    subst P (get_or-map ix_position ixs k d) (all k (ix_position d) below)

-- texts, and the positions that they name one by one
module _ (Names : List ℕ → ℕ → Type 0) where
  named_text : (texts : List (List ℕ)) (positions : List ℕ) → AllZip Names texts positions → (p : ℕ) → Contains positions p → (text : List ℕ) × Contains texts text × Names text p
  named_text [] [] zip p (k, within, same) = absurd (omega arith)
  named_text [] (x ∷ xs) zip p there = absurd zip
  named_text (t ∷ ts) [] zip p there = absurd zip
  named_text (t ∷ ts) (x ∷ xs) zip p (zero, within, same) = (t, (zero, omega arith, refl), subst (Names t) same zip.0)
  named_text (t ∷ ts) (x ∷ xs) zip p (suc k, within, same) =
      let r = named_text ts xs zip.1 p (k, omega arith, same) in
      let later = r.1.1 in
      (r.0, (suc r.1.0, omega arith, r.1.2), r.2)

  position_named : (texts : List (List ℕ)) (positions : List ℕ) → AllZip Names texts positions → (text : List ℕ) → Contains texts text → (p : ℕ) × Contains positions p × Names text p
  position_named [] [] zip text (k, within, same) = absurd (omega arith)
  position_named [] (x ∷ xs) zip text there = absurd zip
  position_named (t ∷ ts) [] zip text there = absurd zip
  position_named (t ∷ ts) (x ∷ xs) zip text (zero, within, same) = (x, (zero, omega arith, refl), subst (λ u. Names u x) same zip.0)
  position_named (t ∷ ts) (x ∷ xs) zip text (suc k, within, same) =
      let r = position_named ts xs zip.1 text (k, omega arith, same) in
      let later = r.1.1 in
      (r.0, (suc r.1.0, omega arith, r.1.2), r.2)

  module _ (packages : List PackageRecord) (within : (text : List ℕ) (p : ℕ) → Names text p → p < length packages) where
    pub zip_below : (texts : List (List ℕ)) (positions : List ℕ) → AllZip Names texts positions → All (λ p. p < length packages) positions
    zip_below texts positions zip = λ k d inside.
        let r = named_text texts positions zip (get_or positions k d) (Contains-get_or positions k d inside) in
        within r.0 _ r.2

    -- the set of these positions is the one that the texts name
    pub zip_named_set : DifferBelow Names (length packages) → (texts : List (List ℕ)) (positions : List ℕ) → AllZip Names texts positions → (set : List Bool) → length set ≡ length packages → ((p : ℕ) → IsIn set p ↔ Contains positions p) → IsSetOfNamed Names packages texts set
    zip_named_set differ texts positions zip set count members = record {
      count_is = count;
      known = λ k d inside. let r = position_named texts positions zip (get_or texts k d) (Contains-get_or texts k d inside) in (r.0, r.2);
      members = λ p. (
        λ h. named_text texts positions zip p ((members p).0 h),
        λ named.
            let r = position_named texts positions zip named.0 named.1 in
            let same : r.0 ≡ p = differ r.0 p named.0 (within named.0 r.0 r.2) (within named.0 p named.2) r.2 named.2 in
            (members p).1 (subst (Contains positions) same r.1),
      );
    }
