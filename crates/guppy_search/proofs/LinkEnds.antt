-- What is said of the ends of links alone, said of the links.
use Rattle.std.proofs.Common.{◌≡◌, ℕ, zero, suc, ◌+◌, ◌<◌, List, [], ◌∷◌, length, map, take, refl, sym, ap, ◌∙◌, subst, cond, Some, Bool, inl, inr, arith}
use Rattle.std.specs.Prelude.{slice_get, slice_index, All, ◌==◌}
use Rattle.std.specs.Borrow.{Bor}
use Rattle.std.proofs.lemmas.List.{get_or-map, take-map, length-map}
use Rattle.std.proofs.lemmas.List.Elements.{All-same}
use Rattle.std.proofs.lemmas.Option.{slice_get-map, slice_get_cases}
use Rattle.guppy_search.specs.declared.ix.direction.DependencyDirection.{DependencyDirection}
use Rattle.guppy_search.specs.declared.ix.direction.DependencyDirection.TheVariants.{Forward, Reverse}
use Rattle.guppy_search.specs.declared.graph_core.link.Link.{Link}
use Rattle.guppy_search.specs.Links.{bare, links_between, seen_link, near_end, far_end, numbers_where, links_at, EndsBelow, SamePair}
use Rattle.guppy_search.specs.Pairs.{SinglesBelow, IsFirstRepeat, IsFirstUnknown}
use Rattle.guppy_search.specs.Stored.{ListsAre, far_at, far_ends_at}

-- the reference to data hides no end
pub near-seen : {E : Type 0} (d : DependencyDirection) (l : Link (Bor E)) (p : ℕ) → p ≡ near_end d l → p ≡ near_end d (seen_link l)
near-seen Forward l p is = is
near-seen Reverse l p is = is

pub far-seen : {E : Type 0} (d : DependencyDirection) (l : Link (Bor E)) (p : ℕ) → p ≡ far_end d l → p ≡ far_end d (seen_link l)
far-seen Forward l p is = is
far-seen Reverse l p is = is

-- each link is between its ends
pub between-bare : {E : Type 0} (links : List (Link E)) → links_between (map bare links) (map (λ (l : Link E). l.edge) links) ≡ links
between-bare [] = refl
between-bare (l ∷ links) = ap (λ ls. l ∷ ls) (between-bare links)

numbers-map : {A B : Type 0} (f : A → B) (p : B → Bool) (i : ℕ) (xs : List A) → numbers_where p i (map f xs) ≡ numbers_where (λ x. p (f x)) i xs
numbers-map f p i [] = refl
numbers-map f p i (x ∷ xs) = ap (λ ns. cond (p (f x)) (i ∷ ns) ns) (numbers-map f p (i + 1) xs)

-- of links and their ends alone
module _ {E : Type 0} where
  links_at-bare : (d : DependencyDirection) (links : List (Link E)) (p : ℕ) → links_at d (map bare links) p ≡ links_at d links p
  links_at-bare Forward links p = numbers-map bare (λ l. near_end Forward l == p) 0 links
  links_at-bare Reverse links p = numbers-map bare (λ l. near_end Reverse l == p) 0 links

  far_ends-bare : (d : DependencyDirection) (links : List (Link E)) → map (λ l. far_end d l) (map bare links) ≡ map (λ (l : Link E). far_end d l) links
  far_ends-bare d [] = refl
  far_ends-bare Forward (l ∷ links) = ap (λ ps. l.to ∷ ps) (far_ends-bare Forward links)
  far_ends-bare Reverse (l ∷ links) = ap (λ ps. l.from ∷ ps) (far_ends-bare Reverse links)

  far_ends_at-bare : (d : DependencyDirection) (links : List (Link E)) (p : ℕ) → far_ends_at d (map bare links) p ≡ far_ends_at d links p
  far_ends_at-bare d links p =
      ap (λ ps. map (λ n. slice_index ps n) (links_at d (map bare links) p)) (far_ends-bare d links) ∙ ap (λ ns. map (far_at d links) ns) (links_at-bare d links p)

  ends-bare : (n : ℕ) (links : List (Link E)) → All (EndsBelow n) (map bare links) → All (EndsBelow n) links
  ends-bare n links ends k d within =
      let within' : k < length (map bare links) = rw (length-map links bare) within in
      rw (get_or-map bare links k d (bare d) within) at (ends k (bare d) within')

  -- a link is found where its ends are, and nothing else is
  found-bare : (links : List (Link E)) (n : ℕ) (l : Link E) → slice_get links n ≡ Some l → slice_get (map bare links) n ≡ Some (bare l)
  found-bare links n l found = rw found at (slice_get-map bare links n)

  bare-found : (links : List (Link E)) (n : ℕ) (a : Link (Unit {0})) → slice_get (map bare links) n ≡ Some a → (l : Link E) × (slice_get links n ≡ Some l) × (bare l ≡ a)
  bare-found links n a found = elim (slice_get_cases links n).1 [
    | inl s ↦ let here = found-bare links n s.0 s.2 in (s.0, s.2, cc)
    | inr s ↦ let none = slice_get-map bare links n in let past = s.1 in absurd (cc)
  ]

  singles-bare : (links : List (Link E)) (k : ℕ) → SinglesBelow (map bare links) k → SinglesBelow links k
  singles-bare links k singles = λ i j a b low low' at at' same.
      singles i j (bare a) (bare b) low low' (found-bare links i a at) (found-bare links j b at') same

  unknown-bare : (n : ℕ) (links : List (Link E)) (k : ℕ) → IsFirstUnknown n (map bare links) k → IsFirstUnknown n links k
  unknown-bare n links k first =
      let within : k < length links = rw (length-map links bare) at first.within in
      record {
        within = within;
        unknown = λ d. rw (get_or-map bare links k d (bare d) within) at (first.unknown (bare d));
        before = ends-bare n (take k links) (All-same (EndsBelow n) _ _ (sym (take-map bare k links)) first.before);
      }

  repeat-bare : (links : List (Link E)) (k : ℕ) → IsFirstRepeat (map bare links) k → IsFirstRepeat links k
  repeat-bare links k again =
      let first = bare-found links again.earlier again.first again.first_found in
      let second = bare-found links k again.second again.second_found in
      record {
        earlier = again.earlier;
        is_earlier = again.is_earlier;
        first = first.0;
        second = second.0;
        first_found = first.1;
        second_found = second.1;
        same = subst (λ z. SamePair z (bare second.0)) (sym first.2) (subst (λ z. SamePair again.first z) (sym second.2) again.same);
        singles = singles-bare links k again.singles;
      }

-- the link with a number has the ends and the data of that number
pub link-between : {E : Type 0} (ends : List (Link (Unit {0}))) (edges : List E) (n : ℕ) (a : Link (Unit {0})) (e : E) → slice_get ends n ≡ Some a → slice_get edges n ≡ Some e → slice_get (links_between ends edges) n ≡ Some (record { from = a.from; to = a.to; edge = e })
link-between [] edges n a e found found' = absurd (cc)
link-between (l ∷ ends) [] n a e found found' = absurd (cc)
link-between (l ∷ ends) (x ∷ edges) zero a e found found' =
    let same : l ≡ a = cc in
    let same' : x ≡ e = cc in
    rw (same, same') refl
link-between (l ∷ ends) (x ∷ edges) (suc n) a e found found' = link-between ends edges n a e found found'

bare-between : {E : Type 0} (ends : List (Link (Unit {0}))) (edges : List E) → length ends ≡ length edges → map bare (links_between ends edges) ≡ ends
bare-between [] [] paired = refl
bare-between [] (e ∷ edges) paired = refl
bare-between (l ∷ ends) [] paired = absurd (omega arith)
bare-between (l ∷ ends) (e ∷ edges) paired = ap (λ ls. l ∷ ls) (bare-between ends edges (omega arith))

-- of ends, and the links that data make of them
module _ {E : Type 0} (ends : List (Link (Unit {0}))) (edges : List E) (paired : length ends ≡ length edges) where
  they_are : ends ≡ map bare (links_between ends edges)
  they_are = sym (bare-between ends edges paired)

  pub length-between : length (links_between ends edges) ≡ length ends
  length-between = sym (length-map (links_between ends edges) bare) ∙ ap length (sym they_are)

  pub lists-between : (d : DependencyDirection) (count : ℕ) (bounds numbers far : List ℕ) → ListsAre d count ends bounds numbers far → ListsAre d count (links_between ends edges) bounds numbers far
  lists-between d count bounds numbers far are = record {
    count_is = are.count_is;
    climb = are.climb;
    list_is = λ p low. are.list_is p low ∙ (ap (λ ls. links_at d ls p) they_are ∙ links_at-bare d (links_between ends edges) p);
    beside = are.beside;
    far_is = λ p low. are.far_is p low ∙ (ap (λ ls. far_ends_at d ls p) they_are ∙ far_ends_at-bare d (links_between ends edges) p);
  }

  pub ends-between : (n : ℕ) → All (EndsBelow n) ends → All (EndsBelow n) (links_between ends edges)
  ends-between n below = ends-bare n (links_between ends edges) (subst (All (EndsBelow n)) they_are below)

  pub singles-between : (k : ℕ) → SinglesBelow ends k → SinglesBelow (links_between ends edges) k
  singles-between k singles = singles-bare (links_between ends edges) k (subst (λ ls. SinglesBelow ls k) they_are singles)

  pub unknown-between : (n k : ℕ) → IsFirstUnknown n ends k → IsFirstUnknown n (links_between ends edges) k
  unknown-between n k first = unknown-bare n (links_between ends edges) k (subst (λ ls. IsFirstUnknown n ls k) they_are first)

  pub repeat-between : (k : ℕ) → IsFirstRepeat ends k → IsFirstRepeat (links_between ends edges) k
  repeat-between k again = repeat-bare (links_between ends edges) k (subst (λ ls. IsFirstRepeat ls k) they_are again)
