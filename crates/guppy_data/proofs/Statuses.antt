-- Lemmas on the values of statuses.
use Rattle.std.proofs.Common.{◌≡◌, ◌∙◌, sym, ap, refl, ℕ, List, [], ◌∷◌, ◌++◌, map, Bool, Option}
use Rattle.guppy_data.specs.declared.platform.ternary.EnabledTernary.TheVariants.{Disabled}
use Rattle.guppy_data.specs.Ternary.{greater, greatest, ternary_of}
use Rattle.guppy_data.specs.Platform.{Status, Never, Always, Dependent, Question, OnAlways, OnPlatforms, OnAny, texts_value, status_value, extended}
use Rattle.guppy_data.proofs.Ternaries.{greater_disabled-left, greater_disabled-right, greater_enabled-left, greater_enabled-right, greatest-append, greatest-greater}

-- functions with equal values
map-pointwise : {X Y : Type 0} (f g : X → Y) → ((x : X) → f x ≡ g x) → (xs : List X) → map f xs ≡ map g xs
map-pointwise f g same [] = refl
map-pointwise f g same (x ∷ xs) = ap (λ y. y ∷ map f xs) (same x) ∙ ap (λ ys. g x ∷ ys) (map-pointwise f g same xs)

module _ {P : Type 0} (answer : List ℕ → P → Option Bool) where
  -- two lists of platforms together
  pub status_value-append : (status : Status) (first second : List P) → status_value answer status (OnPlatforms (first ++ second)) ≡ greater (status_value answer status (OnPlatforms first)) (status_value answer status (OnPlatforms second))
  status_value-append Never first second = refl
  status_value-append Always [] second = sym (greater_disabled-left (status_value answer Always (OnPlatforms second)))
  status_value-append Always (p ∷ first) second = sym (greater_enabled-left (status_value answer Always (OnPlatforms second)))
  status_value-append (Dependent texts) first second = greatest-append (texts_value answer texts) first second

  -- no status is enabled on an empty list
  status_value-nil : (status : Status) → status_value answer status (OnPlatforms []) ≡ Disabled
  status_value-nil Never = refl
  status_value-nil Always = refl
  status_value-nil (Dependent texts) = refl

  -- the texts of both for a list of platforms
  texts_value-append : (texts more : List (List ℕ)) (platforms : List P) → greatest (map (texts_value answer (texts ++ more)) platforms) ≡ greater (greatest (map (texts_value answer texts) platforms)) (greatest (map (texts_value answer more) platforms))
  texts_value-append texts more platforms =
      ap greatest (map-pointwise (texts_value answer (texts ++ more)) (λ p. greater (texts_value answer texts p) (texts_value answer more p)) (λ p. greatest-append (λ text. ternary_of (answer text p)) texts more) platforms) ∙ greatest-greater (texts_value answer texts) (texts_value answer more) platforms

  -- a status with the texts of another is worth the greater of both
  pub status_value-extended : (old other : Status) (question : Question P) → status_value answer (extended old other) question ≡ greater (status_value answer old question) (status_value answer other question)
  status_value-extended Never other question = sym (greater_disabled-left (status_value answer other question))
  status_value-extended Always other OnAny = sym (greater_enabled-left (status_value answer other OnAny))
  status_value-extended Always other OnAlways = sym (greater_enabled-left (status_value answer other OnAlways))
  status_value-extended Always other (OnPlatforms []) = sym (status_value-nil other) ∙ sym (greater_disabled-left (status_value answer other (OnPlatforms [])))
  status_value-extended Always other (OnPlatforms (p ∷ ps)) = sym (greater_enabled-left (status_value answer other (OnPlatforms (p ∷ ps))))
  status_value-extended (Dependent texts) Never question = sym (greater_disabled-right (status_value answer (Dependent texts) question))
  status_value-extended (Dependent texts) Always OnAny = refl
  status_value-extended (Dependent texts) Always OnAlways = refl
  status_value-extended (Dependent texts) Always (OnPlatforms []) = refl
  status_value-extended (Dependent texts) Always (OnPlatforms (p ∷ ps)) = sym (greater_enabled-right (status_value answer (Dependent texts) (OnPlatforms (p ∷ ps))))
  status_value-extended (Dependent texts) (Dependent more) OnAny = refl
  status_value-extended (Dependent texts) (Dependent more) OnAlways = refl
  status_value-extended (Dependent texts) (Dependent more) (OnPlatforms ps) = texts_value-append texts more ps
