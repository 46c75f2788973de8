-- Links with the ordered pair of an earlier one, found row by row.
use Rattle.std.proofs.Common.{◌≡◌, ℕ, ◌+◌, ◌<◌, ◌≤◌, min, ltb, List, length, get_or, map, replicate, refl, sym, ap, ◌∙◌, arith, ⊎_elim, subst, Option, Some}
use Rattle.std.specs.Prelude.{slice_get, slice_index, All, ◌==◌, ◌≢◌, MatchOption}
use Rattle.std.specs.Bool.{then_some}
use Rattle.std.proofs.Math.ListN.{set, length-set}
use Rattle.std.proofs.lemmas.Bool.{cases_lt, cases_eq, cases_order, lt-ltb, le-ltb}
use Rattle.std.proofs.lemmas.List.{get_or_default, get_or-map, get_or-set_same, get_or-set_other}
use Rattle.std.proofs.lemmas.List.Elements.{All-set, All-weaker, All-replicate}
use Rattle.std.proofs.lemmas.Option.{slice_get_cases, slice_get_within, get_or_from_slice_get}
use Rattle.guppy_search.specs.declared.ix.direction.DependencyDirection.TheVariants.{Forward}
use Rattle.guppy_search.specs.declared.graph_core.link.Link.{Link}
use Rattle.guppy_search.specs.Links.{links_at, near_end, EndsBelow, SamePair}
use Rattle.guppy_search.specs.Stored.{far_at, far_ends_at}
use Rattle.guppy_search.specs.Pairs.{to_at, LeadApart, IsFirstAgain, SinglesBelow, IsFirstRepeat}
use Rattle.guppy_search.proofs.Numbers.{numbers_ascend}
use Rattle.guppy_search.proofs.Rows.{row_links, row_has}

-- the first i far ends, and no other positions, have the mark
pub record IsMarked (far : List ℕ) (mark : ℕ) (marks : List ℕ) (i : ℕ) : Type 0 where
  pub apart : LeadApart far i
  pub marked : (j : ℕ) → j < i → slice_index marks (slice_index far j) ≡ mark
  pub led_to : (t : ℕ) → t < length marks → slice_index marks t ≡ mark → (j : ℕ) × (j < i) × (slice_index far j ≡ t)
  pub used : All (λ m. m < mark + 1) marks

module _ (far : List ℕ) (mark : ℕ) (marks : List ℕ) where
  pub none_marked : All (λ m. m < mark) marks → IsMarked far mark marks 0
  none_marked unused = record {
    apart = λ j k up low. absurd (omega arith);
    marked = λ j low. absurd (omega arith);
    led_to = λ t within same. absurd (let m = unused t 0 within in omega arith);
    used = All-weaker (λ m. m < mark) (λ m. m < mark + 1) (λ m h. omega arith) marks unused;
  }

  -- the next far end is none of them
  pub marked_more : (i to : ℕ) → IsMarked far mark marks i → to ≡ slice_index far i → to < length marks → slice_index marks to ≢ mark → IsMarked far mark (set marks to mark) (i + 1)
  marked_more i to m to_is within fresh =
      let not_there : (j : ℕ) → j < i → slice_index far j ≢ to = λ j low e. fresh (subst (λ t. slice_index marks t ≡ mark) e (m.marked j low)) in
      record {
        apart = λ j k up low. ⊎_elim
            (λ b. m.apart j k up b)
            (λ b. let at : k ≡ i = omega arith in let below : j < i = omega arith in λ e. not_there j below (e ∙ ap (λ z. slice_index far z) at ∙ sym to_is))
            (cases_lt k i);
        marked = λ j low. ⊎_elim
            (λ b. get_or-set_other marks to (slice_index far j) mark 0 (not_there j b) ∙ m.marked j b)
            (λ b. let at : j ≡ i = omega arith in rw (at, ← to_is) (get_or-set_same marks to mark 0 within))
            (cases_lt j i);
        led_to = λ t inside same. ⊎_elim
            (λ e. (i, omega arith, sym to_is ∙ sym e))
            (λ e.
            let inside' : t < length marks = rw (← length-set marks to mark) inside in
            let was = m.led_to t inside' (sym (get_or-set_other marks to t mark 0 e) ∙ same) in
            let below = was.1 in
            (was.0, omega arith, was.2))
            (cases_eq t to);
        used = All-set (λ z. z < mark + 1) marks to mark (omega arith) m.used;
      }

  -- it is one of them
  pub marked_again : (row : List ℕ) (i to : ℕ) → IsMarked far mark marks i → i < length row → to ≡ slice_index far i → to < length marks → slice_index marks to ≡ mark → IsFirstAgain row far (slice_index row i)
  marked_again row i to m inside to_is within same =
      let was = m.led_to to within same in
      record {
        earlier = was.0;
        place = i;
        is_earlier = was.1;
        within = inside;
        at = refl;
        same = was.2 ∙ to_is;
        apart = m.apart;
      }

-- the position that the link n comes from
abbrev pub from_at : {E : Type 0} → List (Link E) → ℕ → ℕ
from_at {E} links n = slice_index (map (λ (l : Link E). l.from) links) n

-- the link n has the pair of an earlier one
pub record IsRepeat {E : Type 0} (links : List (Link E)) (n : ℕ) : Type 0 where
  pub earlier : ℕ
  pub is_earlier : earlier < n
  pub within : n < length links
  pub same_from : from_at links earlier ≡ from_at links n
  pub same_to : to_at links earlier ≡ to_at links n

module _ {E : Type 0} (links : List (Link E)) where
  ends_are : (n : ℕ) (l : Link E) → slice_get links n ≡ Some l → (from_at links n ≡ l.from) × (to_at links n ≡ l.to)
  ends_are n l found =
      let within = slice_get_within links n l found in
      let is : get_or links n l ≡ l = get_or_from_slice_get links n l l found in (
        get_or-map (λ (z : Link E). z.from) links n l 0 within ∙ ap (λ (z : Link E). z.from) is,
        get_or-map (λ (z : Link E). z.to) links n l 0 within ∙ ap (λ (z : Link E). z.to) is,
      )

  -- a link of a row comes from its position
  row_from : (p k : ℕ) → k < length (links_at Forward links p) → (slice_index (links_at Forward links p) k < length links) × (from_at links (slice_index (links_at Forward links p) k) ≡ p)
  row_from p k h =
      let one = row_links Forward links p k h in
      (slice_get_within links _ one.link one.found, (ends_are _ one.link one.found).0 ∙ one.near)

  link_at : (n : ℕ) → n < length links → (l : Link E) × (slice_get links n ≡ Some l)
  link_at n within = ⊎_elim (λ a. (a.0, a.2)) (λ b. let past = b.0 in absurd (omega arith)) (slice_get_cases links n).1

  -- the place of a link in the row of the position that it comes from
  row_place : (p n : ℕ) → n < length links → from_at links n ≡ p → (k : ℕ) × (k < length (links_at Forward links p)) × (slice_index (links_at Forward links p) k ≡ n)
  row_place p n within from =
      let l = link_at n within in
      let near : near_end Forward l.0 ≡ p = sym (ends_are n l.0 l.1).0 ∙ from in
      let c = row_has Forward links p n l.0 l.1 near in
      (c.0, c.1, get_or_default (links_at Forward links p) c.0 0 n c.1 ∙ c.2)

  row_up : (p j k : ℕ) → j < k → k < length (links_at Forward links p) → slice_index (links_at Forward links p) j < slice_index (links_at Forward links p) k
  row_up p j k up within = numbers_ascend (λ l. near_end Forward l == p) 0 links j k up within

  -- the far end beside the number of a link
  far_to : (p k : ℕ) → k < length (links_at Forward links p) → slice_index (far_ends_at Forward links p) k ≡ to_at links (slice_index (links_at Forward links p) k)
  far_to p k h = get_or-map (far_at Forward links) (links_at Forward links p) k 0 0 h

  -- the places of a repeated link and of the earlier one in their row
  record Places (p n : ℕ) : Type 0 where
    first : ℕ
    second : ℕ
    in_order : first < second
    within : second < length (links_at Forward links p)
    at : slice_index (links_at Forward links p) second ≡ n
    same : slice_index (far_ends_at Forward links p) first ≡ slice_index (far_ends_at Forward links p) second

  places_of : (p n : ℕ) → IsRepeat links n → from_at links n ≡ p → Places p n
  places_of p n r from =
      let above = r.is_earlier in
      let inside = r.within in
      let a = row_place p r.earlier (omega arith) (r.same_from ∙ from) in
      let b = row_place p n r.within from in
      let a_in = a.1 in
      let b_in = b.1 in
      let a_is = a.2 in
      let b_is = b.2 in
      record {
        first = a.0;
        second = b.0;
        in_order = ⊎_elim
            (λ e. let same = ap (slice_index (links_at Forward links p)) e in absurd (omega arith))
            (λ other. ⊎_elim (λ lt. lt) (λ gt. let up = row_up p b.0 a.0 gt a.1 in absurd (omega arith)) other)
            (cases_order a.0 b.0);
        within = b.1;
        at = b.2;
        same = far_to p a.0 a.1 ∙ ap (to_at links) a.2 ∙ r.same_to ∙ sym (ap (to_at links) b.2) ∙ sym (far_to p b.0 b.1);
      }

  -- what leads where an earlier link of its row does is a repeat
  again_repeats : (p k : ℕ) → IsFirstAgain (links_at Forward links p) (far_ends_at Forward links p) k → IsRepeat links k
  again_repeats p k f =
      let at = f.at in
      let inside = f.within in
      let before = f.is_earlier in
      let up = row_up p f.earlier f.place f.is_earlier f.within in
      let first = row_from p f.earlier (omega arith) in
      let second = row_from p f.place f.within in
      let within = second.0 in
      record {
        earlier = slice_index (links_at Forward links p) f.earlier;
        is_earlier = omega arith;
        within = omega arith;
        same_from = first.1 ∙ sym second.1 ∙ ap (from_at links) at;
        same_to = sym (far_to p f.earlier (omega arith)) ∙ f.same ∙ far_to p f.place f.within ∙ ap (to_at links) at;
      }

  -- and the lowest of its row
  again_lowest : (p k n : ℕ) → IsFirstAgain (links_at Forward links p) (far_ends_at Forward links p) k → IsRepeat links n → from_at links n ≡ p → k ≤ n
  again_lowest p k n f r from =
      let s = places_of p n r from in
      let at = f.at in
      let s_at = s.at in
      ⊎_elim
      (λ e. let same = ap (slice_index (links_at Forward links p)) e in omega arith)
      (λ other. ⊎_elim
      (λ lt. let up = row_up p f.place s.second lt s.within in omega arith)
      (λ gt. absurd (f.apart s.first s.second s.in_order gt s.same))
      other)
      (cases_order f.place s.second)

  -- a row that leads to different positions has no repeat
  apart_none : (p n : ℕ) → LeadApart (far_ends_at Forward links p) (length (links_at Forward links p)) → IsRepeat links n → from_at links n ≡ p → ⊥
  apart_none p n apart r from = let s = places_of p n r from in apart s.first s.second s.in_order s.within s.same

  -- lowest is the lowest repeat of the first rows, if they have one, and no mark is above the next row's
  pub record IsScanned (position lowest : ℕ) (marks : List ℕ) : Type 0 where
    pub repeats : lowest < length links → IsRepeat links lowest
    pub none_below : (n : ℕ) → IsRepeat links n → from_at links n < position → lowest ≤ n
    pub used : All (λ m. m < position + 1) marks

  pub scanned_none : (count : ℕ) → IsScanned 0 (length links) (replicate count 0)
  scanned_none count = record {
    repeats = λ h. absurd (omega arith);
    none_below = λ n r low. absurd (omega arith);
    used = All-replicate (λ m. m < 1) count 0 (omega arith);
  }

  module _ (p lowest : ℕ) (marks after : List ℕ) (was : IsScanned p lowest marks) (used : All (λ m. m < p + 1 + 1) after) where
    -- the next row has no repeat
    pub scanned_apart : LeadApart (far_ends_at Forward links p) (length (links_at Forward links p)) → IsScanned (p + 1) lowest after
    scanned_apart apart = record {
      repeats = was.repeats;
      none_below = λ n r low. ⊎_elim (λ b. was.none_below n r b) (λ ge. absurd (apart_none p n apart r (omega arith))) (cases_lt (from_at links n) p);
      used = used;
    }

    -- the next row has one
    pub scanned_again : (k : ℕ) → IsFirstAgain (links_at Forward links p) (far_ends_at Forward links p) k → IsScanned (p + 1) (min lowest k) after
    scanned_again k f = record {
      repeats = λ h. ⊎_elim
          (λ b. let e : min lowest k ≡ lowest = omega arith in let low : lowest < length links = omega arith in rw e (was.repeats low))
          (λ ge. let e : min lowest k ≡ k = omega arith in rw e (again_repeats p k f))
          (cases_lt lowest k);
      none_below = λ n r low. ⊎_elim
          (λ b. let le = was.none_below n r b in omega arith)
          (λ ge. let le = again_lowest p k n f r (omega arith) in omega arith)
          (cases_lt (from_at links n) p);
      used = used;
    }

  pair_repeats : (i j : ℕ) (a b : Link E) → i < j → slice_get links i ≡ Some a → slice_get links j ≡ Some b → SamePair a b → IsRepeat links j
  pair_repeats i j a b up found_a found_b same =
      let at_i = ends_are i a found_a in
      let at_j = ends_are j b found_b in
      record {
        earlier = i;
        is_earlier = up;
        within = slice_get_within links j b found_b;
        same_from = at_i.0 ∙ same.0 ∙ sym at_j.0;
        same_to = at_i.1 ∙ same.1 ∙ sym at_j.1;
      }

  -- no repeat below k
  singles_below : (k : ℕ) → ((n : ℕ) → IsRepeat links n → k ≤ n) → SinglesBelow links k
  singles_below k none i j a b i_in j_in found_a found_b same =
      ⊎_elim
      (λ e. e)
      (λ other. ⊎_elim
      (λ up. absurd (let le = none j (pair_repeats i j a b up found_a found_b same) in omega arith))
      (λ down. absurd (let le = none i (pair_repeats j i b a down found_b found_a (sym same.0, sym same.1)) in omega arith))
      other)
      (cases_order i j)

  first_repeat_is : (k : ℕ) → IsRepeat links k → ((n : ℕ) → IsRepeat links n → k ≤ n) → IsFirstRepeat links k
  first_repeat_is k r none =
      let above = r.is_earlier in
      let inside = r.within in
      let first = link_at r.earlier (omega arith) in
      let second = link_at k r.within in
      let at_first = ends_are r.earlier first.0 first.1 in
      let at_second = ends_are k second.0 second.1 in
      record {
        earlier = r.earlier;
        is_earlier = r.is_earlier;
        first = first.0;
        second = second.0;
        first_found = first.1;
        second_found = second.1;
        same = (sym at_first.0 ∙ r.same_from ∙ at_second.0, sym at_first.1 ∙ r.same_to ∙ at_second.1);
        singles = singles_below k none;
      }

  module _ (count position lowest : ℕ) (marks : List ℕ) (ends : All (EndsBelow count) links) (scanned : IsScanned position lowest marks) (all : count ≤ position) where
    lowest_of_all : (n : ℕ) → IsRepeat links n → lowest ≤ n
    lowest_of_all n r =
        let l = link_at n r.within in
        let at = (ends_are n l.0 l.1).0 in
        let end : EndsBelow count l.0 = subst (EndsBelow count) (get_or_from_slice_get links n l.0 l.0 l.1) (ends n l.0 r.within) in
        let below = end.0 in
        scanned.none_below n r (omega arith)

    -- all rows were scanned
    pub scanned_all : (r : Option ℕ) → r ≡ then_some (ltb lowest (length links)) lowest → MatchOption r (SinglesBelow links (length links)) (IsFirstRepeat links)
    scanned_all r r_is = ⊎_elim
        (λ lt. rw (r_is, lt-ltb lowest (length links) lt) (first_repeat_is lowest (scanned.repeats lt) lowest_of_all))
        (λ ge. rw (r_is, le-ltb lowest (length links) ge) (singles_below (length links) (λ n r. let le = lowest_of_all n r in omega arith)))
        (cases_lt lowest (length links))
