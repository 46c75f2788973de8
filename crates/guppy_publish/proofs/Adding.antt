-- Links that are added for declared pairs.
use Rattle.std.proofs.Common.{◌≡◌, ◌≢◌, ◌∙◌, ⊎_elim, sym, ap, subst, ℕ, ◌+◌, ◌-◌, ◌<◌, ◌≤◌, List, [], ◌∷◌, ◌++◌, length, map, take, drop, get_or, All, Contains, arith}
use Rattle.std.proofs.lemmas.List.{append_assoc, append-nil, map-append, map_push, take_more, take_all, take-append-drop, length-drop}
use Rattle.std.proofs.lemmas.List.Elements.{All-push, Contains-append_left, Contains-append_right, Contains-get_or, Contains-push}
use Rattle.std.proofs.lemmas.List.Quantifiers.{all_pairs_push}
use Rattle.guppy_data.specs.declared.records.LinkRecord.{LinkRecord}
use Rattle.guppy_data.proofs.Mapped.{Contains-map, from_map}
use Rattle.guppy_publish.specs.Needs.{Pair, ends, IsLinked, IsNeed, IsAddedFor, IsLinkedFor, AreAdded}

-- what none of them is, is not there
pub not_there : {X Y : Type 0} (f : X → Y) (xs : List X) (k : ℕ) → length xs ≤ k → (y : Y) → All (λ x. f x ≢ y) (take k xs) → Contains (map f xs) y → ⊥
not_there f xs k past y none there =
    let one = from_map f xs y there in
    let all = subst (All (λ x. f x ≢ y)) (take_all k xs past) none in
    all one.1.0 one.0 one.1.1 (ap f one.1.2 ∙ one.2)

-- what is behind the first ones is there
pub behind_there : {X Y : Type 0} (f : X → Y) (xs : List X) (n : ℕ) (y : Y) → Contains (map f (take (length xs - n) (drop n xs))) y → Contains (map f xs) y
behind_there f xs n y there =
    let all : take (length xs - n) (drop n xs) ≡ drop n xs = take_all (length xs - n) (drop n xs) (let behind = length-drop n xs in omega arith) in
    subst (λ ys. Contains (map f ys) y) (take-append-drop n xs)
    (subst (λ ys. Contains ys y) (sym (map-append f (take n xs) (drop n xs))) (Contains-append_right (map f (take n xs)) (map f (drop n xs)) y (subst (λ ys. Contains (map f ys) y) all there)))

-- no pair is declared
pub added_none : (links : List LinkRecord) → AreAdded [] links links
added_none links = record {
  added = [];
  needs_are = sym (append-nil links);
  of_declared = λ k d low. absurd (omega arith);
  missing = λ k d low. absurd (omega arith);
  apart = λ i j d low high. absurd (omega arith);
  linked = λ k d low. absurd (omega arith);
}

module _ (declared : List Pair) (pair : Pair) (links needs needs' : List LinkRecord) (before : AreAdded declared links needs) where
  pub linked_there : IsLinked needs pair → needs' ≡ needs → AreAdded (declared ++ pair ∷ []) links needs'
  linked_there there same = record {
    added = before.added;
    needs_are = same ∙ before.needs_are;
    of_declared = λ k d low. let of = before.of_declared k d low in (Contains-append_left declared (pair ∷ []) (ends (get_or before.added k d)) of.0, of.1);
    missing = before.missing;
    apart = before.apart;
    linked = subst (λ ls. All (IsLinked ls) (declared ++ pair ∷ [])) (sym same) (All-push (IsLinked needs) declared pair before.linked there);
  }

  linked_before : (link : LinkRecord) → needs' ≡ needs ++ link ∷ [] → (x : Pair) → IsLinked needs x → IsLinked needs' x
  linked_before link are x there = subst (λ ls. IsLinked ls x) (sym are) (subst (λ ps. Contains ps x) (sym (map_push ends needs link)) (Contains-append_left (map ends needs) (ends link ∷ []) x there))

  pub linked_new : IsAddedFor pair needs needs' → AreAdded (declared ++ pair ∷ []) links needs'
  linked_new new =
      let added = before.added in
      let parts : map ends needs ≡ map ends links ++ map ends added = ap (map ends) before.needs_are ∙ map-append ends links added in
      let unlinked : (x : LinkRecord) → Contains added x → ends x ≢ ends new.link = λ x there same. new.missing (subst (λ ps. Contains ps pair) (sym parts)
      (Contains-append_right (map ends links) (map ends added) pair (subst (Contains (map ends added)) (same ∙ new.ends_are) (Contains-map ends added x there)))) in
      record {
        added = added ++ new.link ∷ [];
        needs_are = new.links_are ∙ (ap (λ ls. ls ++ new.link ∷ []) before.needs_are ∙ append_assoc links added (new.link ∷ []));
        of_declared = All-push (λ r. Contains (declared ++ pair ∷ []) (ends r) × IsNeed r) added new.link
            (λ k d low. let of = before.of_declared k d low in (Contains-append_left declared (pair ∷ []) (ends (get_or added k d)) of.0, of.1))
            (subst (Contains (declared ++ pair ∷ [])) (sym new.ends_are) (Contains-push declared pair), new.is_need);
        missing = All-push (λ r. ¬ IsLinked links (ends r)) added new.link before.missing
            (λ there. new.missing (subst (λ ps. Contains ps pair) (sym parts) (Contains-append_left (map ends links) (map ends added) pair (subst (Contains (map ends links)) new.ends_are there))));
        apart = all_pairs_push (λ r s. ends r ≢ ends s) added new.link before.apart (λ k d low. unlinked (get_or added k d) (Contains-get_or added k d low));
        linked = All-push (IsLinked needs') declared pair (λ k d low. linked_before new.link new.links_are (get_or declared k d) (before.linked k d low))
            (subst (λ ls. IsLinked ls pair) (sym new.links_are) (subst (λ ps. Contains ps pair) (sym (map_push ends needs new.link)) (subst (Contains (map ends needs ++ ends new.link ∷ [])) new.ends_are (Contains-push (map ends needs) (ends new.link)))));
      }

  -- one more pair is declared
  pub added_push : IsLinkedFor pair needs needs' → AreAdded (declared ++ pair ∷ []) links needs'
  added_push step = ⊎_elim (λ there. linked_there there.0 there.1) linked_new step

-- the step of a loop over pairs that are seen as f tells
pub added_more : {Z : Type 0} (f : Z → Pair) (zs : List Z) (k : ℕ) (z other : Z) → k < length zs → z ≡ get_or zs k other
    → (links needs needs' : List LinkRecord) → AreAdded (map f (take k zs)) links needs → IsLinkedFor (f z) needs needs' → AreAdded (map f (take (k + 1) zs)) links needs'
added_more f zs k z other low is links needs needs' before step =
    let longer : map f (take (k + 1) zs) ≡ map f (take k zs) ++ f z ∷ [] =
    ap (map f) (take_more zs k other low ∙ ap (λ w. take k zs ++ w ∷ []) (sym is)) ∙ map_push f (take k zs) z in
    subst (λ declared. AreAdded declared links needs') (sym longer) (added_push (map f (take k zs)) (f z) links needs needs' before step)

-- the end of the loop
pub added_all : {Z : Type 0} (f : Z → Pair) (zs : List Z) (k : ℕ) → length zs ≤ k → (links needs : List LinkRecord) → AreAdded (map f (take k zs)) links needs → AreAdded (map f zs) links needs
added_all f zs k past links needs added = subst (λ zs'. AreAdded (map f zs') links needs) (take_all k zs past) added
