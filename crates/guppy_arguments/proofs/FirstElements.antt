-- What is made of the first element with each key, behind its key in a map.
use Rattle.std.proofs.Common.{◌≡◌, ◌∙◌, ℕ, Bool, true, false, cond, List, [], ◌∷◌, ◌++◌, Option, None, Some, refl, sym, ap}
use Rattle.std.specs.Cmp.Lexicographic.{nat_list_eq_equiv}
use Rattle.std.specs.List.{find}
use Rattle.std.specs.Option.{is_some, option_map, option_map_or, option_or}
use Rattle.std.specs.Str.{bytes_eq}
use Rattle.std.proofs.lemmas.List.Folds.{find-append}
use Rattle.std.proofs.lemmas.Slice.Eq.{bytes_eq-Decides}

or_none : {T : Type 0} (o : Option T) → o ≡ option_or o None
or_none None = refl
or_none (Some x) = refl

where_some : {T : Type 0} (o other : Option T) → is_some o ≡ true → o ≡ option_or o other
where_some None other there = cc
where_some (Some x) other there = refl

where_none : {T : Type 0} (o other : Option T) → is_some o ≡ false → other ≡ option_or o other
where_none None other none = refl
where_none (Some x) other none = cc

is_some-map : {V T : Type 0} (seen : V → T) (o : Option V) → is_some (option_map seen o) ≡ is_some o
is_some-map seen None = refl
is_some-map seen (Some x) = refl

made_or : {A T : Type 0} (made : A → T) (o : Option A) (same : Bool) (a : A) → option_map made (option_or o (cond same (Some a) None)) ≡ option_or (option_map made o) (cond same (Some (made a)) None)
made_or made None true a = refl
made_or made None false a = refl
made_or made (Some x) same a = refl

-- the first element with the key
abbrev pub first_with : {A : Type 0} → (A → List ℕ) → List A → List ℕ → Option A
first_with key xs id = find (λ a. bytes_eq id (key a)) xs

module _ {A T V : Type 0} (key : A → List ℕ) (made : A → T) (seen : V → T) where
  -- behind each key stands what is made of the first element with it
  abbrev pub HasFirsts : List A → (List ℕ → Option V) → Type 0
  HasFirsts xs behind = (id : List ℕ) → option_map seen (behind id) ≡ option_map made (first_with key xs id)

  one_more : (xs : List A) (a : A) (id : List ℕ) → option_map made (first_with key (xs ++ a ∷ []) id) ≡ option_or (option_map made (first_with key xs id)) (cond (bytes_eq id (key a)) (Some (made a)) None)
  one_more xs a id = ap (option_map made) (find-append (λ x. bytes_eq id (key x)) xs (a ∷ [])) ∙ made_or made (first_with key xs id) (bytes_eq id (key a)) a

  module _ (xs : List A) (a : A) (was : List ℕ → Option V) (has : HasFirsts xs was) where
    was_there : (id : List ℕ) → bytes_eq id (key a) ≡ true → is_some (option_map made (first_with key xs id)) ≡ is_some (was (key a))
    was_there id is = ap is_some (sym (has id)) ∙ (is_some-map seen (was id) ∙ ap (λ i. is_some (was i)) ((bytes_eq-Decides id (key a)).0 is))

    -- one more element changes nothing where its key is there
    pub HasFirsts-stays : is_some (was (key a)) ≡ true → HasFirsts (xs ++ a ∷ []) was
    HasFirsts-stays there id = has id ∙ (by (bytes_eq id (key a)) refl ∙ sym (one_more xs a id))
      where
        by : (same : Bool) → bytes_eq id (key a) ≡ same → option_map made (first_with key xs id) ≡ option_or (option_map made (first_with key xs id)) (cond same (Some (made a)) None)
        by true is = where_some (option_map made (first_with key xs id)) (Some (made a)) (was_there id is ∙ there)
        by false is = or_none (option_map made (first_with key xs id))

    -- what is made of one more element is put behind its key where that wasn't there
    pub HasFirsts-put : (now : List ℕ → Option V) (v : V) → is_some (was (key a)) ≡ false → ((id : List ℕ) → now id ≡ cond (bytes_eq (key a) id) (Some v) (was id)) → seen v ≡ made a → HasFirsts (xs ++ a ∷ []) now
    HasFirsts-put now v none puts is_made id = ap (option_map seen) (puts id) ∙ (ap (λ b. option_map seen (cond b (Some v) (was id))) (nat_list_eq_equiv.symm (key a) id) ∙ (by (bytes_eq id (key a)) refl ∙ sym (one_more xs a id)))
      where
        by : (same : Bool) → bytes_eq id (key a) ≡ same → option_map seen (cond same (Some v) (was id)) ≡ option_or (option_map made (first_with key xs id)) (cond same (Some (made a)) None)
        by true is = ap Some is_made ∙ where_none (option_map made (first_with key xs id)) (Some (made a)) (was_there id is ∙ none)
        by false is = has id ∙ or_none (option_map made (first_with key xs id))

-- what is read of an `Option` by way of another one
pub map_or_same : {A V T : Type 0} (seen : V → T) (made : A → T) (o : Option V) (p : Option A) (other : T) → option_map seen o ≡ option_map made p → option_map_or seen o other ≡ option_map_or made p other
map_or_same seen made None None other same = refl
map_or_same seen made None (Some y) other same = cc
map_or_same seen made (Some x) None other same = cc
map_or_same seen made (Some x) (Some y) other same = cc
