-- Which packages are linked by links that aren't dev-only, once what is declared counts.
use Rattle.std.proofs.Common.{◌≡◌, ◌≢◌, ◌∙◌, ◌⊎◌, ◌↔◌, inl, inr, ⊎_elim, refl, sym, ap, subst, ℕ, zero, suc, List, [], ◌∷◌, ◌++◌, Bool, true, false, ◌&&◌, map, slice_index_or, Contains, arith}
use Rattle.std.specs.List.{AllZip}
use Rattle.std.proofs.lemmas.Bool.{false_from_ne_true}
use Rattle.std.proofs.lemmas.List.Elements.{Contains-append_left, Contains-append_right, Contains-append_cases}
use Rattle.guppy_data.specs.declared.records.LinkRecord.{LinkRecord}
use Rattle.guppy_data.specs.Platform.{Always, recorded_status}
use Rattle.guppy_data.specs.Records.{IsRequired}
use Rattle.guppy_graph.specs.DevOnly.{is_absent, is_dev_only, is_never}
use Rattle.guppy_data.proofs.Mapped.{from_map}
use Rattle.guppy_publish.specs.Needs.{Pair, ends, IsDeclaredDevOnly, IsFirmlyLinked, IsMadeFirm, IsNeed, IsNeedOf, AreAdded, AreNeeds}

module _ {X Y : Type 0} (R : X → Y → Type 0) where
  -- what stands beside an element of the first list, or of the second
  pub beside_first : (xs : List X) (ys : List Y) → AllZip R xs ys → (x : X) → Contains xs x → (y : Y) × Contains ys y × R x y
  beside_first [] ys zip x (k, within, same) = absurd (omega arith)
  beside_first (z ∷ xs) [] zip x there = absurd zip
  beside_first (z ∷ xs) (y ∷ ys) zip x (zero, within, same) = (y, (zero, omega arith, refl), subst (λ v. R v y) same zip.0)
  beside_first (z ∷ xs) (y ∷ ys) zip x (suc k, within, same) =
      let later = beside_first xs ys zip.1 x (k, omega arith, same) in
      (later.0, Contains-append_right (y ∷ []) ys later.0 later.1, later.2)

  pub beside_second : (xs : List X) (ys : List Y) → AllZip R xs ys → (y : Y) → Contains ys y → (x : X) × Contains xs x × R x y
  beside_second xs [] zip y (k, within, same) = absurd (omega arith)
  beside_second [] (z ∷ ys) zip y there = absurd zip
  beside_second (x ∷ xs) (z ∷ ys) zip y (zero, within, same) = (x, (zero, omega arith, refl), subst (λ v. R x v) same zip.0)
  beside_second (x ∷ xs) (z ∷ ys) zip y (suc k, within, same) =
      let later = beside_second xs ys zip.1 y (k, omega arith, same) in
      (later.0, Contains-append_right (x ∷ []) xs later.0 later.1, later.2)

-- a link that is required in its normal section isn't dev-only
required_firm : (r : LinkRecord) → IsRequired Always r.normal → is_dev_only r ≡ false
required_firm r is = ap (λ s. (is_never s && is_never (recorded_status r.normal.optional.build_if)) && is_absent r.build) is.required.build_if

firm_ends : (link firm : LinkRecord) → IsMadeFirm link firm → ends firm ≡ ends link
firm_ends link firm is = λ i. (is.same.from i, is.same.to i)

module _ (declared : List Pair) (links needs : List LinkRecord) (are : AreNeeds declared links needs) (pair : Pair) where
  -- what a link was before
  of_firm : (r : LinkRecord) → Contains are.firm r → ends r ≡ pair → is_dev_only r ≡ false → IsFirmlyLinked links pair ⊎ Contains declared pair
  of_firm r there leads firm =
      let before = beside_second (IsNeedOf declared) links are.firm are.firm_are r there in
      let link = before.0 in
      ⊎_elim
      (λ made. inr (subst (Contains declared) (sym (firm_ends link r made.1) ∙ leads) made.0.1))
      (λ kept. inl (link, before.1, ap ends (sym kept.1) ∙ leads, ap is_dev_only (sym kept.1) ∙ firm)) before.2

  of_added : (r : LinkRecord) → Contains are.added.added r → ends r ≡ pair → Contains declared pair
  of_added r there leads =
      subst (Contains declared) leads (subst (λ v. Contains declared (ends v)) there.2 (are.added.of_declared there.0 r there.1).0)

  pub firm_before : IsFirmlyLinked needs pair → IsFirmlyLinked links pair ⊎ Contains declared pair
  firm_before (r, there, leads, firm) = ⊎_elim
      (λ old. of_firm r old leads firm)
      (λ added. inr (of_added r added leads))
      (Contains-append_cases are.firm are.added.added r (subst (λ ls. Contains ls r) are.added.needs_are there))

  kept_there : (r : LinkRecord) → Contains are.firm r → Contains needs r
  kept_there r there = subst (λ ls. Contains ls r) (sym are.added.needs_are) (Contains-append_left are.firm are.added.added r there)

  still_linked : IsFirmlyLinked links pair → IsFirmlyLinked needs pair
  still_linked (link, there, leads, firm) =
      let after = beside_first (IsNeedOf declared) links are.firm are.firm_are link there in
      let need = after.0 in
      ⊎_elim
      (λ made. let no : false ≡ true = sym firm ∙ made.0.0 in absurd (cc no))
      (λ kept. (need, kept_there need after.1, ap ends kept.1 ∙ leads, ap is_dev_only kept.1 ∙ firm)) after.2

  -- a link of a declared pair isn't dev-only any more
  firm_need : (r : LinkRecord) → Contains needs r → ends r ≡ pair → Contains declared pair → is_dev_only r ≡ false
  firm_need r there leads asked = ⊎_elim
      (λ old.
      let before = beside_second (IsNeedOf declared) links are.firm are.firm_are r old in
      let link = before.0 in
      ⊎_elim
      (λ made. required_firm r made.1.normal)
      (λ kept. ap is_dev_only kept.1 ∙ false_from_ne_true (is_dev_only link) (λ dev. kept.0 (dev, subst (Contains declared) (sym (ap ends (sym kept.1) ∙ leads)) asked))) before.2)
      (λ added. subst (λ v. is_dev_only v ≡ false) added.2 (required_firm (slice_index_or are.added.added added.0 r) (are.added.of_declared added.0 r added.1).1.normal))
      (Contains-append_cases are.firm are.added.added r (subst (λ ls. Contains ls r) are.added.needs_are there))

  declared_linked : Contains declared pair → IsFirmlyLinked needs pair
  declared_linked asked =
      let linked = subst (λ p. Contains (map ends needs) p) asked.2 (are.added.linked asked.0 pair asked.1) in
      let link = from_map ends needs pair linked in
      (link.0, link.1, link.2, firm_need link.0 link.1 link.2 asked)

  pub firm_after : IsFirmlyLinked links pair ⊎ Contains declared pair → IsFirmlyLinked needs pair
  firm_after either = ⊎_elim still_linked declared_linked either
