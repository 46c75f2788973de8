-- The ends of links, record by record.
use Rattle.std.proofs.Common.{◌≡◌, ◌∙◌, ap, refl, arith, ℕ, zero, suc, ◌+◌, List, [], ◌∷◌, ◌++◌, length, length-append, map, take, All, Some, slice_get}
use Rattle.std.proofs.lemmas.Option.{slice_get_within, get_or_from_slice_get}
use Rattle.std.proofs.lemmas.List.{take_more}
use Rattle.std.proofs.lemmas.List.Elements.{All-push}
use Rattle.guppy_search.specs.declared.graph_core.link.Link.{Link}
use Rattle.guppy_search.specs.Links.{links_between}
use Rattle.guppy_data.specs.declared.records.PackageRecord.{PackageRecord}
use Rattle.guppy_data.specs.declared.records.LinkRecord.{LinkRecord}
use Rattle.guppy_graph.specs.First.{IsFirstWithout}
use Rattle.guppy_graph.specs.Ids.{HasId}
use Rattle.guppy_graph.specs.Keys.{NoneBelow}
use Rattle.guppy_graph.specs.Links.{AreEndsOf, AreEndsNamed, AreLinksOf, AreEndsKnown}
use Rattle.guppy_graph.proofs.PackageIds.{unknown_of}

-- the records whose ends were found are known
pub all_known : (packages : List PackageRecord) (records : List LinkRecord) (ends : List (Link (Unit {0}))) → length ends ≡ length records → All (AreEndsNamed packages) (links_between ends records) → All (AreEndsKnown packages) records
all_known packages [] ends count named k d within = absurd (omega arith)
all_known packages (r ∷ records) [] count named k d within = absurd (omega arith)
all_known packages (r ∷ records) (e ∷ ends) count named zero d within =
    let n = named zero (record { from = e.from; to = e.to; edge = r }) (omega arith) in
    ((_, n.0), (_, n.1))
all_known packages (r ∷ records) (e ∷ ends) count named (suc k) d within =
    let fewer : length ends ≡ length records = omega arith in
    let rest : All (AreEndsNamed packages) (links_between ends records) = λ i x below. named (suc i) x (omega arith) in
    all_known packages records ends fewer rest k d (omega arith)

-- one more link, at the end
between_more : (ends : List (Link (Unit {0}))) (records : List LinkRecord) (e : Link (Unit {0})) (r : LinkRecord) → length ends ≡ length records → links_between (ends ++ e ∷ []) (records ++ r ∷ []) ≡ links_between ends records ++ (record { from = e.from; to = e.to; edge = r }) ∷ []
between_more [] [] e r same = refl
between_more [] (y ∷ records) e r same = absurd (omega arith)
between_more (x ∷ ends) [] e r same = absurd (omega arith)
between_more (x ∷ ends) (y ∷ records) e r same = ap (λ l. (record { from = x.from; to = x.to; edge = y }) ∷ l) (between_more ends records e r (omega arith))

-- the data of the links
edges_of : (ends : List (Link (Unit {0}))) (records : List LinkRecord) → length ends ≡ length records → map (λ (l : Link LinkRecord). l.edge) (links_between ends records) ≡ records
edges_of [] [] same = refl
edges_of [] (r ∷ records) same = absurd (omega arith)
edges_of (e ∷ ends) [] same = absurd (omega arith)
edges_of (e ∷ ends) (r ∷ records) same = ap (λ l. r ∷ l) (edges_of ends records (omega arith))

pub links_made : (packages : List PackageRecord) (records : List LinkRecord) (ends : List (Link (Unit {0}))) → AreEndsOf packages records ends → AreLinksOf packages records (links_between ends records)
links_made packages records ends are = record {
  records_are = edges_of ends records are.count;
  ends = are.named;
}

module _ (packages : List PackageRecord) (records : List LinkRecord) (k : ℕ) (ends : List (Link (Unit {0}))) (r : LinkRecord) where
  pub unknown_from : slice_get records k ≡ Some r → AreEndsOf packages (take k records) ends → NoneBelow (HasId packages) r.from (length packages) → IsFirstWithout (AreEndsKnown packages) records k
  unknown_from found are none = record {
    item = r;
    found = found;
    lacks = λ h. unknown_of packages r.from none h.0;
    before = all_known packages (take k records) ends are.count are.named;
  }

  pub unknown_to : slice_get records k ≡ Some r → AreEndsOf packages (take k records) ends → NoneBelow (HasId packages) r.to (length packages) → IsFirstWithout (AreEndsKnown packages) records k
  unknown_to found are none = record {
    item = r;
    found = found;
    lacks = λ h. unknown_of packages r.to none h.1;
    before = all_known packages (take k records) ends are.count are.named;
  }

  pub ends_more : (from to : ℕ) → slice_get records k ≡ Some r → AreEndsOf packages (take k records) ends → HasId packages r.from from → HasId packages r.to to → AreEndsOf packages (take (k + 1) records) (ends ++ (record { from = from; to = to; edge = tt }) ∷ [])
  ends_more from to found are from_is to_is =
      let within = slice_get_within records k r found in
      let more : take (k + 1) records ≡ take k records ++ r ∷ [] =
      take_more records k r within ∙ ap (λ x. take k records ++ x ∷ []) (get_or_from_slice_get records k r r found) in
      let count = are.count in
      rw more (record {
        count = simp length-append (omega arith);
        named = rw (between_more ends (take k records) (record { from = from; to = to; edge = tt }) r are.count) (All-push (AreEndsNamed packages) (links_between ends (take k records)) _ are.named (from_is, to_is));
      })
