-- Lists that are seen as others, and with one element more.
use Rattle.std.proofs.Common.{◌≡◌, ◌∙◌, ℕ, ◌+◌, ◌<◌, Bool, true, false, Option, Some, None, List, [], ◌∷◌, ◌++◌, length, map, take, get_or, refl, ap, sym, subst, append_assoc, if◌then◌else◌}
use Rattle.std.specs.Prelude.{◌↔◌, Contains, is_some, ◌&&◌}
use Rattle.std.specs.List.{AllZip, filter, flat_map}
use Rattle.std.proofs.lemmas.List.{append-nil, map-append, take_more}
use Rattle.guppy_data.specs.Sorted.{KeepsUpTo}
use Rattle.guppy_features.specs.declared.fact.Fact.{Fact}
use Rattle.guppy_features.specs.declared.reason.Reason.{Reason}
use Rattle.guppy_features.specs.Reasons.{grounds}
use Rattle.guppy_built.specs.Features.{needed_positions}

-- what holds of what is seen, place by place
pub zip_seen : {A B C : Type 0} (f : A → B) (R : B → C → Type 0) (xs : List A) (ys : List C) → AllZip (λ x y. R (f x) y) xs ys → AllZip R (map f xs) ys
zip_seen f R [] [] h = h
zip_seen f R [] (y ∷ ys) h = h
zip_seen f R (x ∷ xs) [] h = h
zip_seen f R (x ∷ xs) (y ∷ ys) h = (h.0, zip_seen f R xs ys h.1)

-- all that one way more needs stands behind the others
needed_append : (xs : List Reason) (x : Reason) → needed_positions (xs ++ x ∷ []) ≡ needed_positions xs ++ map (λ f. f.position) (grounds x)
needed_append [] x = ap (map (λ (f : Fact). f.position)) (append-nil (grounds x))
needed_append (y ∷ xs) x =
    let seen = λ (f : Fact). f.position in
    map-append seen (grounds y) (flat_map grounds (xs ++ x ∷ []))
    ∙ ap (λ (rest : List ℕ). map seen (grounds y) ++ rest) (needed_append xs x)
    ∙ sym (append_assoc (map seen (grounds y)) (needed_positions xs) (map seen (grounds x)))
    ∙ ap (λ (front : List ℕ). front ++ map seen (grounds x)) (sym (map-append seen (grounds y) (flat_map grounds xs)))

pub needed_more : (ways : List Reason) (i : ℕ) (d : Reason) (old new : List ℕ) → i < length ways → new ≡ old ++ map (λ f. f.position) (grounds (get_or ways i d)) → old ≡ needed_positions (take i ways) → new ≡ needed_positions (take (i + 1) ways)
needed_more ways i d old new below pushed is =
    pushed ∙ ap (λ (front : List ℕ). front ++ map (λ (f : Fact). f.position) (grounds (get_or ways i d))) is
    ∙ sym (ap needed_positions (take_more ways i d below) ∙ needed_append (take i ways) (get_or ways i d))

module _ {A B : Type 0} (R : A → B → Type 0) (test : A → Bool) where
  -- whether or not the first is kept, what holds of the rest does of all
  kept_or_not : (w : A) (xs more : List A) (y : B) → ((zs : List B) → AllZip R xs zs → AllZip R more (zs ++ y ∷ [])) → (b : Bool) (ys : List B)
      → AllZip R (if b then w ∷ xs else xs) ys → AllZip R (if b then w ∷ more else more) (ys ++ y ∷ [])
  kept_or_not w xs more y rest true [] h = absurd h
  kept_or_not w xs more y rest true (z ∷ ys) h = (h.0, rest ys h.1)
  kept_or_not w xs more y rest false ys h = rest ys h

  zip_append : (xs : List A) (ys : List B) (x : A) (y : B) → AllZip R (filter test xs) ys → test x ≡ true → R x y → AllZip R (filter test (xs ++ x ∷ [])) (ys ++ y ∷ [])
  zip_append [] [] x y h passes r = rw passes (r, tt)
  zip_append [] (z ∷ ys) x y h passes r = absurd h
  zip_append (w ∷ xs) ys x y h passes r = kept_or_not w (filter test xs) (filter test (xs ++ x ∷ [])) y (λ zs given. zip_append xs zs x y given passes r) (test w) ys h

  -- one more passes, and has its partner
  pub filtered_more : (xs : List A) (ys : List B) (i : ℕ) (d : A) (y : B) → i < length xs → AllZip R (filter test (take i xs)) ys → test (get_or xs i d) ≡ true → R (get_or xs i d) y
      → AllZip R (filter test (take (i + 1) xs)) (ys ++ y ∷ [])
  filtered_more xs ys i d y below h passes r = rw (take_more xs i d below) (zip_append (take i xs) ys (get_or xs i d) y h passes r)

  filter_none : (xs : List A) (x : A) → test x ≡ false → filter test (xs ++ x ∷ []) ≡ filter test xs
  filter_none [] x fails = rw fails refl
  filter_none (w ∷ xs) x fails = ap (λ (rest : List A). if test w then w ∷ rest else rest) (filter_none xs x fails)

  -- or it doesn't
  pub filtered_less : (xs : List A) (ys : List B) (i : ℕ) (d : A) → i < length xs → AllZip R (filter test (take i xs)) ys → test (get_or xs i d) ≡ false
      → AllZip R (filter test (take (i + 1) xs)) ys
  filtered_less xs ys i d below h fails = rw (take_more xs i d below, filter_none (take i xs) (get_or xs i d) fails) h

-- what is given only where a test passes
pub given_where : {A : Type 0} (b : Bool) (o : Option A) (x : A) → Some x ≡ (if b then o else None) → (b ≡ true) × (o ≡ Some x)
given_where true o x h = (refl, sym h)
given_where false o x h = absurd (cc h)

pub not_given : {A : Type 0} (a : Bool) (o : Option A) → None ≡ (if a && is_some o then o else None) → (a && is_some o) ≡ false
not_given false o h = refl
not_given true None h = refl
not_given true (Some x) h = absurd (cc h)

-- a sorted set has exactly the elements of the list, where equal ones are the same
pub same_elements : {X : Type 0} (eq : X → X → Bool) (xs ys : List X) → ((a b : X) → eq a b ≡ true → a ≡ b) → KeepsUpTo eq xs ys → (x : X) → Contains ys x ↔ Contains xs x
same_elements eq xs ys exact kept x = (kept.no_other x, λ h. let at = kept.each x h in subst (Contains ys) (sym (exact x at.1 at.4)) (at.0, at.2, at.3))
