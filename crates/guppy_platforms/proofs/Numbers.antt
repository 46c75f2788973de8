-- Numbers of texts: their places in a list that grows.
use Rattle.std.proofs.Common.{◌≡◌, ◌∙◌, ℕ, zero, suc, ◌+◌, ◌<◌, Bool, true, false, List, [], ◌∷◌, ◌++◌, length, length-append, map, option_map, take, Option, Some, None, get_or, refl, sym, ap, subst, arith, if◌then◌else◌, Bor}
use Rattle.std.specs.Prelude.{slice_get}
use Rattle.std.specs.Bool.{then_some}
use Rattle.std.specs.List.{AllZip, AllByRecursion, IsDistinct, list_any}
use Rattle.std.specs.Str.{bytes_eq}
use Rattle.std.proofs.lemmas.List.{append-nil, append_assoc, map-append, get_or_append_left, take_more}
use Rattle.std.proofs.lemmas.Map.Keys.{IsDistinct-head, IsDistinct-tail}
use Rattle.std.proofs.lemmas.Option.{slice_get_within, slice_get-get_or, get_or_from_slice_get, slice_get-map}
use Rattle.std.proofs.lemmas.Slice.Eq.{bytes_eq-Decides}
use Rattle.indexmap.specs.IndexSet.{insert_key}
use Rattle.guppy_closure.specs.declared.clause.Clause.{Clause}
use Rattle.guppy_closure.specs.Named.{StandsAt, IsSameFact, IsSameClause, AreSame}
use Rattle.guppy_platforms.specs.HostClauses.{Grows, AreApart}

-- what stands at a place still does
pub grown_at : (before after : List (List ℕ)) (text : List ℕ) (p : ℕ) → Grows before after → StandsAt before text p → StandsAt after text p
grown_at before after text p grows at =
    let low : p < length before = slice_get_within before p text at in
    let longer : p < length (before ++ grows.0) = let l = length-append before grows.0 in omega arith in
    subst (λ all. slice_get all p ≡ Some text) (sym grows.1)
    (slice_get-get_or (before ++ grows.0) p text longer ∙ ap Some (get_or_append_left before grows.0 text p low ∙ get_or_from_slice_get before p text text at))

pub grows_on : (a b c : List (List ℕ)) → Grows a b → Grows b c → Grows a c
grows_on a b c f g = (f.0 ++ g.0, g.1 ∙ (ap (λ z. z ++ g.0) f.1 ∙ append_assoc a f.0 g.0))

-- so clauses by places are the same
module _ (before after : List (List ℕ)) (grows : Grows before after) where
  pub grown_fact : (a : Option (List ℕ)) (b : Option ℕ) → IsSameFact (StandsAt before) a b → IsSameFact (StandsAt after) a b
  grown_fact None None s = s
  grown_fact None (Some p) s = absurd s
  grown_fact (Some text) None s = absurd s
  grown_fact (Some text) (Some p) s = grown_at before after text p grows s

  pub grown_clause : (c : Clause (List ℕ)) (d : Clause ℕ) → IsSameClause (StandsAt before) c d → IsSameClause (StandsAt after) c d
  grown_clause c d s = record {
    first = grown_fact c.first d.first s.first;
    second = grown_fact c.second d.second s.second;
    head = grown_at before after c.head d.head grows s.head;
  }

  pub grown_clauses : (cs : List (Clause (List ℕ))) (ds : List (Clause ℕ)) → AreSame (StandsAt before) cs ds → AreSame (StandsAt after) cs ds
  grown_clauses cs ds s = record { size = s.size; each = λ n c d found other. grown_clause c d (s.each n c d found other) }

abbrev pub text_of : Bor (List ℕ) → List ℕ
text_of id = id.now

abbrev pub same_text : Bor (List ℕ) → Bor (List ℕ) → Bool
same_text a b = bytes_eq a.now b.now

-- what is put in stands at the place that is told
pub put_at : (ids : List (Bor (List ℕ))) (id : Bor (List ℕ)) (p : ℕ) → (k : Bor (List ℕ)) × (slice_get ids p ≡ Some k) × (same_text id k ≡ true) → StandsAt (map text_of ids) id.now p
put_at ids id p found =
    slice_get-map text_of ids p ∙ (ap (option_map text_of) found.1 ∙ ap Some (sym ((bytes_eq-Decides id.now found.0.now).0 found.2)))

grows_by : (ids after : List (Bor (List ℕ))) (id : Bor (List ℕ)) (known : Bool) → after ≡ (if known then ids else ids ++ id ∷ []) → Grows (map text_of ids) (map text_of after)
grows_by ids after id true e = ([], ap (map text_of) e ∙ sym (append-nil (map text_of ids)))
grows_by ids after id false e = (id.now ∷ [], ap (map text_of) e ∙ map-append text_of ids (id ∷ []))

-- the list grows where one is put in
pub put_grows : (ids after : List (Bor (List ℕ))) (id : Bor (List ℕ)) → after ≡ insert_key same_text ids id → Grows (map text_of ids) (map text_of after)
put_grows ids after id e = grows_by ids after id (list_any (same_text id) ids) e

not_later : (id : Bor (List ℕ)) (ids : List (Bor (List ℕ))) (p : ℕ) → AllByRecursion (λ y. same_text id y ≡ false) ids → StandsAt (map text_of ids) id.now p → ⊥
not_later id [] p all at = absurd (cc)
not_later id (k ∷ ids) zero all at =
    let same : k.now ≡ id.now = cc in
    let found : same_text id k ≡ true = (bytes_eq-Decides id.now k.now).1 (sym same) in
    let other = all.0 in
    absurd (cc)
not_later id (k ∷ ids) (suc p) all at = not_later id ids p all.1 at

-- texts that differ stand at one place each
pub apart : (ids : List (Bor (List ℕ))) → IsDistinct same_text ids → AreApart (map text_of ids)
apart [] d text p q a b = absurd (cc)
apart (k ∷ ids) d text zero zero a b = refl
apart (k ∷ ids) d text zero (suc q) a b =
    let same : k.now ≡ text = cc in
    absurd (not_later k ids q (IsDistinct-head same_text k ids d) (subst (λ t. StandsAt (map text_of ids) t q) (sym same) b))
apart (k ∷ ids) d text (suc p) zero a b =
    let same : k.now ≡ text = cc in
    absurd (not_later k ids p (IsDistinct-head same_text k ids d) (subst (λ t. StandsAt (map text_of ids) t p) (sym same) a))
apart (k ∷ ids) d text (suc p) (suc q) a b = ap suc (apart ids (IsDistinct-tail same_text k ids d) text p q a b)

-- a fact where the truth value has one
pub same_first : (texts : List (List ℕ)) (b : Bool) (text : List ℕ) (p : ℕ) → StandsAt texts text p → IsSameFact (StandsAt texts) (then_some b text) (then_some b p)
same_first texts true text p at = at
same_first texts false text p at = tt

-- of the first elements, and of one more
pub map_more : {X Y : Type 0} (f : X → Y) (xs : List X) (k : ℕ) (x : X) → k < length xs → x ≡ get_or xs k x → map f (take (k + 1) xs) ≡ map f (take k xs) ++ f x ∷ []
map_more f xs k x low is = ap (map f) (take_more xs k x low ∙ ap (λ z. take k xs ++ z ∷ []) (sym is)) ∙ map-append f (take k xs) (x ∷ [])

-- two lists, and one more of each
pub zip_push : {A B : Type 0} (R : A → B → Type 0) (xs : List A) (ys : List B) (x : A) (y : B) → AllZip R xs ys → R x y → AllZip R (xs ++ x ∷ []) (ys ++ y ∷ [])
zip_push R [] [] x y all one = (one, tt)
zip_push R [] (b ∷ ys) x y all one = absurd all
zip_push R (a ∷ xs) [] x y all one = absurd all
zip_push R (a ∷ xs) (b ∷ ys) x y all one = (all.0, zip_push R xs ys x y all.1 one)

-- at a place of both
pub zip_at : {A B : Type 0} (R : A → B → Type 0) (xs : List A) (ys : List B) (k : ℕ) (x : A) (y : B) → AllZip R xs ys → k < length xs → R (get_or xs k x) (get_or ys k y)
zip_at R [] [] k x y all low = absurd (omega (arith, low))
zip_at R [] (b ∷ ys) k x y all low = absurd all
zip_at R (a ∷ xs) [] k x y all low = absurd all
zip_at R (a ∷ xs) (b ∷ ys) zero x y all low = all.0
zip_at R (a ∷ xs) (b ∷ ys) (suc k) x y all low = zip_at R xs ys k x y all.1 (omega (arith, low))
