-- From records whose rules were checked to the graph of their parts.
use Rattle.std.proofs.Common.{◌≡◌, ◌∙◌, sym, ap, refl, subst, arith, ℕ, zero, suc, ◌<◌, ◌≤◌, List, [], ◌∷◌, get_or, length, All, true, Option, Some, None, slice_get}
use Rattle.std.proofs.lemmas.List.{length-map}
use Rattle.std.specs.Option.{option_map}
use Rattle.std.proofs.lemmas.Bool.Decides.{nat_tests}
use Rattle.std.proofs.lemmas.Option.{slice_get_within, get_or_from_slice_get, slice_get-map}
use Rattle.guppy_search.specs.declared.graph_core.link.Link.{Link}
use Rattle.guppy_search.specs.declared.graph_core.graph.GraphFault.{GraphFault}
use Rattle.guppy_search.specs.declared.graph_core.graph.GraphFault.TheVariants.{TooManyNodes, TooManyLinks, UnknownEnd, RepeatedLink, OutOfMemory}
use Rattle.guppy_search.specs.Links.{EndsBelow, is_unknown}
use Rattle.guppy_search.specs.Pairs.{IsFirstRepeat, SinglesBelow}
use Rattle.guppy_search.specs.Graph.{GraphValue, IsGraph}
use Rattle.guppy_search.specs.Fault.{IsFault}
use Rattle.guppy_data.specs.declared.records.PackageRecord.{PackageRecord}
use Rattle.guppy_data.specs.declared.records.LinkRecord.{LinkRecord}
use Rattle.guppy_data.specs.declared.records.WorkspaceRecord.{WorkspaceRecord}
use Rattle.guppy_graph.specs.Ids.{HasId, DistinctBelow}
use Rattle.guppy_graph.specs.Links.{AreLinksOf, AreEndsNamed, AreEndsKnown, DistinctPairsBelow, IsFirstRepeatedLink}
use Rattle.guppy_graph.specs.Accepted.{few_packages, few_links, distinct_pairs, ArePackagesAccepted}
use Rattle.guppy_graph.specs.Refused.{IsRefusal, error_of}
use Rattle.guppy_graph.proofs.Lists.{some_of, of_some}
use Rattle.guppy_graph.proofs.PackageIds.{within_of, id_is, position_is}
use Rattle.guppy_graph.proofs.Rules.{none_below, packages_kept, after_ends}

edge_at : (o : Option (Link LinkRecord)) (r : LinkRecord) → option_map (λ l. l.edge) o ≡ Some r → (l : Link LinkRecord) × (o ≡ Some l) × (l.edge ≡ r)
edge_at None r h = absurd (cc)
edge_at (Some l) r h = (l, refl, cc)

-- the link of the record at the number
link_at : (packages : List PackageRecord) (records : List LinkRecord) (links : List (Link LinkRecord)) → AreLinksOf packages records links → (k : ℕ) (r : LinkRecord) → slice_get records k ≡ Some r → (l : Link LinkRecord) × (slice_get links k ≡ Some l) × (l.edge ≡ r)
link_at packages records links are k r found =
    edge_at (slice_get links k) r (sym (slice_get-map (λ (l : Link LinkRecord). l.edge) links k) ∙ (ap (λ rs. slice_get rs k) are.records_are ∙ found))

record_at : (packages : List PackageRecord) (records : List LinkRecord) (links : List (Link LinkRecord)) → AreLinksOf packages records links → (k : ℕ) (l : Link LinkRecord) → slice_get links k ≡ Some l → slice_get records k ≡ Some l.edge
record_at packages records links are k l found =
    ap (λ rs. slice_get rs k) (sym are.records_are) ∙ (slice_get-map (λ (l : Link LinkRecord). l.edge) links k ∙ ap (option_map (λ (l : Link LinkRecord). l.edge)) found)

count_of : (packages : List PackageRecord) (records : List LinkRecord) (links : List (Link LinkRecord)) → AreLinksOf packages records links → length links ≡ length records
count_of packages records links are = sym (length-map links (λ (l : Link LinkRecord). l.edge)) ∙ ap length are.records_are

ends_at : (packages : List PackageRecord) (records : List LinkRecord) (links : List (Link LinkRecord)) → AreLinksOf packages records links → (k : ℕ) (l : Link LinkRecord) → slice_get links k ≡ Some l → AreEndsNamed packages l
ends_at packages records links are k l found =
    subst (AreEndsNamed packages) (get_or_from_slice_get links k l l found) (are.ends k l (slice_get_within links k l found))

ends_below : (packages : List PackageRecord) (records : List LinkRecord) (links : List (Link LinkRecord)) → AreLinksOf packages records links → All (EndsBelow (length packages)) links
ends_below packages records links are k d within =
    let e = are.ends k d within in
    (within_of packages _ _ e.0, within_of packages _ _ e.1)

known_end : {E : Type 0} (n : ℕ) (l : Link E) → EndsBelow n l → is_unknown n l ≡ true → ⊥
known_end n l below unknown = grind (arith, nat_tests)

some_at : (links : List (Link LinkRecord)) (k : ℕ) → k < length links → (l : Link LinkRecord) × (get_or links k l ≡ l)
some_at [] k h = absurd (omega arith)
some_at (l ∷ links) zero h = (l, refl)
some_at (l ∷ links) (suc k) h = some_at links k (omega arith)

module _ (packages : List PackageRecord) (records : List LinkRecord) (links : List (Link LinkRecord)) (are : AreLinksOf packages records links) (distinct : DistinctBelow packages (length packages)) where
  -- links with different ends come of records with different IDs
  pub pairs_of : (k : ℕ) → SinglesBelow links k → DistinctPairsBelow records k
  pairs_of k singles i j key below_i below_j here there =
      let a = some_of (slice_get records i) _ here in
      let b = some_of (slice_get records j) _ there in
      let same_from : a.0.from ≡ b.0.from = a.2.0 ∙ sym b.2.0 in
      let same_to : a.0.to ≡ b.0.to = a.2.1 ∙ sym b.2.1 in
      let l = link_at packages records links are i a.0 a.1 in
      let m = link_at packages records links are j b.0 b.1 in
      let e = ends_at packages records links are i l.0 l.1 in
      let f = ends_at packages records links are j m.0 m.1 in
      let froms : l.0.edge.from ≡ m.0.edge.from = ap (λ (r : LinkRecord). r.from) l.2 ∙ (same_from ∙ ap (λ (r : LinkRecord). r.from) (sym m.2)) in
      let tos : l.0.edge.to ≡ m.0.edge.to = ap (λ (r : LinkRecord). r.to) l.2 ∙ (same_to ∙ ap (λ (r : LinkRecord). r.to) (sym m.2)) in
      singles i j l.0 m.0 below_i below_j l.1 m.1 (
        position_is packages distinct m.0.edge.from l.0.from m.0.from (subst (λ id. HasId packages id l.0.from) froms e.0) f.0,
        position_is packages distinct m.0.edge.to l.0.to m.0.to (subst (λ id. HasId packages id l.0.to) tos e.1) f.1,
      )

  repeat_of : (k : ℕ) → IsFirstRepeat links k → IsFirstRepeatedLink records k
  repeat_of k r =
      let e = ends_at packages records links are r.earlier r.first r.first_found in
      let f = ends_at packages records links are k r.second r.second_found in
      let same_from : r.first.edge.from ≡ r.second.edge.from = id_is packages r.first.edge.from r.second.edge.from r.first.from e.0 (subst (λ p. HasId packages r.second.edge.from p) (sym r.same.0) f.0) in
      let same_to : r.first.edge.to ≡ r.second.edge.to = id_is packages r.first.edge.to r.second.edge.to r.first.to e.1 (subst (λ p. HasId packages r.second.edge.to p) (sym r.same.1) f.1) in
      record {
        repeat = record {
          key = (r.second.edge.from, r.second.edge.to);
          here = of_some (slice_get records k) _ r.second.edge (record_at packages records links are k r.second r.second_found) (refl, refl);
          earlier = r.earlier;
          is_earlier = r.is_earlier;
          there = of_some (slice_get records r.earlier) _ r.first.edge (record_at packages records links are r.earlier r.first r.first_found) (same_from, same_to);
        };
        differ = pairs_of k r.singles;
      }

  -- the fault of the parts is the first fault of the records
  pub refusal_of : (workspace : WorkspaceRecord) → ArePackagesAccepted packages workspace → length records ≤ 4294967295 → All (AreEndsKnown packages) records → (fault : GraphFault) → IsFault (length packages) links fault → IsRefusal packages records workspace (error_of fault)
  refusal_of workspace kept few known TooManyNodes h = record { rule = few_packages; broken = (refl, h); earlier = none_below packages records workspace }
  refusal_of workspace kept few known TooManyLinks h =
      let n = count_of packages records links are in
      record { rule = few_links; broken = (refl, omega arith); earlier = packages_kept packages records workspace kept }
  refusal_of workspace kept few known (UnknownEnd k) h =
      let at = h.2.within in
      let l = some_at links k at in
      let below : EndsBelow (length packages) l.0 = subst (EndsBelow (length packages)) l.1 (ends_below packages records links are k l.0 at) in
      let unknown : is_unknown (length packages) l.0 ≡ true = subst (λ (x : Link LinkRecord). is_unknown (length packages) x ≡ true) l.1 (h.2.unknown l.0) in
      absurd (known_end (length packages) l.0 below unknown)
  refusal_of workspace kept few known (RepeatedLink k) h =
      record { rule = distinct_pairs; broken = (k, refl, repeat_of k h.3); earlier = after_ends packages records workspace (packages_kept packages records workspace kept) few known }
  refusal_of workspace kept few known OutOfMemory h = tt

  pub pairs_distinct : (g : GraphValue PackageRecord LinkRecord) → IsGraph g → g.links ≡ links → DistinctPairsBelow records (length records)
  pairs_distinct g is same = pairs_of (length records) (λ i j a b below_i below_j found_a found_b pair. is.single i j a b (ap (λ ls. slice_get ls i) same ∙ found_a) (ap (λ ls. slice_get ls j) same ∙ found_b) pair)
