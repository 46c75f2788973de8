-- Packages that are unchanged.
use Rattle.std.proofs.Common.{◌≡◌, refl, sym, ℕ, List, [], Contains}
use Rattle.std.specs.Prelude.{◌↔◌}
use Rattle.std.proofs.lemmas.Option.{slice_get_read}
use Rattle.guppy_search.proofs.Lists.{Contains-first, Contains-later}
use Rattle.guppy_data.specs.declared.records.LinkRecord.{LinkRecord}
use Rattle.guppy_data.specs.declared.records.PackageRecord.{PackageRecord}
use Rattle.guppy_graph.specs.Ids.{IsKnown, ids_of}
use Rattle.guppy_built.specs.Rows.{Row}
use Rattle.guppy_changes.specs.Marks.{Mark, HasMark, it_needs, it_asks_for_defaults, it_asks_for, it_is_built, it_is_built_with}
use Rattle.guppy_changes.specs.Changes.{State, IsUnchanged, AreOthers, none, fails, holds, edges}
use Rattle.guppy_data.proofs.Mapped.{from_map}

-- where all are kept, there are no others
none_other : {X : Type 0} {P : X → Type 0} {all others : List X} → AreOthers P all others → ((x : X) → Contains all x → P x) → others ≡ []
none_other none every = refl
none_other (fails x {all} off rest) every = absurd (off (every x (Contains-first x all)))
none_other (holds x {all} on rest) every = none_other rest (λ y there. every y (Contains-later x y all there))

known_there : (packages : List PackageRecord) (id : List ℕ) → Contains (ids_of packages) id → IsKnown packages id
known_there packages id there =
    let one = from_map (λ (r : PackageRecord). r.id) packages id there in
    (one.1.0, rw (slice_get_read packages _ one.1.0 one.0 refl one.1.1 (sym one.1.2)) one.2)

pub nothing_changed : (s : State) (ids : List (List ℕ)) → AreOthers (IsUnchanged s s) (ids_of s.graph.packages) ids → ids ≡ []
nothing_changed s ids others = none_other others (λ id there. (known_there s.graph.packages id there, λ mark. (λ h. h, λ h. h)))

-- marks of a package depend on its links and rows
kept_mark : (links more : List LinkRecord) (rows others : List Row) (id : List ℕ) (mark : Mark) → ((l : LinkRecord) → l.from ≡ id → Contains links l → Contains more l)
    → ((row : Row) → row.id ≡ id → Contains rows row → Contains others row) → HasMark links rows id mark → HasMark more others id mark
kept_mark links more rows others _ _ ls rs (it_needs l kind there h) = it_needs l kind (ls l refl there) h
kept_mark links more rows others _ _ ls rs (it_asks_for_defaults l kind there h) = it_asks_for_defaults l kind (ls l refl there) h
kept_mark links more rows others _ _ ls rs (it_asks_for l kind feature there h) = it_asks_for l kind feature (ls l refl there) h
kept_mark links more rows others _ _ ls rs (it_is_built row there) = it_is_built row (rs row refl there)
kept_mark links more rows others _ _ ls rs (it_is_built_with row feature there on) = it_is_built_with row feature (rs row refl there) on

pub others_aside : (before now : State) (id : List ℕ) → IsKnown before.graph.packages id
    → ((l : LinkRecord) → l.from ≡ id → Contains (edges before.graph.links) l ↔ Contains (edges now.graph.links) l)
    → ((row : Row) → row.id ≡ id → Contains before.rows row ↔ Contains now.rows row) → IsUnchanged before now id
others_aside before now id known ls rs = (
  known,
  λ mark. (
    kept_mark (edges before.graph.links) (edges now.graph.links) before.rows now.rows id mark (λ l e. (ls l e).0) (λ row e. (rs row e).0),
    kept_mark (edges now.graph.links) (edges before.graph.links) now.rows before.rows id mark (λ l e. (ls l e).1) (λ row e. (rs row e).1),
  ),
)
