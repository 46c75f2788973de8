-- Lemmas on the order of `EnabledTernary` and on the greatest of a list.
use Rattle.std.proofs.Common.{◌≡◌, ◌∙◌, sym, ap, refl, ℕ, ◌<◌, ◌+◌, List, [], ◌∷◌, ◌++◌, length, take, drop, map, get_or}
use Rattle.std.proofs.lemmas.List.{take_more, take-append-drop}
use Rattle.guppy_data.specs.declared.platform.ternary.EnabledTernary.{EnabledTernary}
use Rattle.guppy_data.specs.declared.platform.ternary.EnabledTernary.TheVariants.{Disabled, Unknown, Enabled}
use Rattle.guppy_data.specs.Ternary.{greater, greatest}

-- `Disabled` is the least value
pub greater_disabled-left : (a : EnabledTernary) → greater Disabled a ≡ a
greater_disabled-left Disabled = refl
greater_disabled-left Unknown = refl
greater_disabled-left Enabled = refl

pub greater_disabled-right : (a : EnabledTernary) → greater a Disabled ≡ a
greater_disabled-right Disabled = refl
greater_disabled-right Unknown = refl
greater_disabled-right Enabled = refl

-- `Enabled` is the greatest value
pub greater_enabled-left : (a : EnabledTernary) → greater Enabled a ≡ Enabled
greater_enabled-left Disabled = refl
greater_enabled-left Unknown = refl
greater_enabled-left Enabled = refl

pub greater_enabled-right : (a : EnabledTernary) → greater a Enabled ≡ Enabled
greater_enabled-right Disabled = refl
greater_enabled-right Unknown = refl
greater_enabled-right Enabled = refl

pub greater_comm : (a b : EnabledTernary) → greater a b ≡ greater b a
greater_comm Disabled b = greater_disabled-left b ∙ sym (greater_disabled-right b)
greater_comm Unknown Disabled = refl
greater_comm Unknown Unknown = refl
greater_comm Unknown Enabled = refl
greater_comm Enabled b = greater_enabled-left b ∙ sym (greater_enabled-right b)

pub greater_assoc : (a b c : EnabledTernary) → greater a (greater b c) ≡ greater (greater a b) c
greater_assoc Disabled b c =
    greater_disabled-left (greater b c) ∙ ap (λ x. greater x c) (sym (greater_disabled-left b))
greater_assoc Unknown Disabled c = ap (greater Unknown) (greater_disabled-left c)
greater_assoc Unknown Unknown Disabled = refl
greater_assoc Unknown Unknown Unknown = refl
greater_assoc Unknown Unknown Enabled = refl
greater_assoc Unknown Enabled c =
    ap (greater Unknown) (greater_enabled-left c) ∙ sym (greater_enabled-left c)
greater_assoc Enabled b c =
    greater_enabled-left (greater b c) ∙ sym (greater_enabled-left c) ∙ ap (λ x. greater x c) (sym (greater_enabled-left b))

-- the greater of two pairs' values, pair by pair
pub greater_exchange : (a b c d : EnabledTernary) → greater (greater a b) (greater c d) ≡ greater (greater a c) (greater b d)
greater_exchange a b c d =
    sym (greater_assoc a b (greater c d)) ∙ ap (greater a) (greater_assoc b c d ∙ ap (λ x. greater x d) (greater_comm b c) ∙ sym (greater_assoc c b d)) ∙ greater_assoc a c (greater b d)

-- the greatest of two lists together
pub greatest-append : {X : Type 0} (f : X → EnabledTernary) (xs ys : List X) → greatest (map f (xs ++ ys)) ≡ greater (greatest (map f xs)) (greatest (map f ys))
greatest-append f [] ys = sym (greater_disabled-left (greatest (map f ys)))
greatest-append f (x ∷ xs) ys =
    ap (greater (f x)) (greatest-append f xs ys) ∙ greater_assoc (f x) (greatest (map f xs)) (greatest (map f ys))

-- the greatest of the greater of two values each
pub greatest-greater : {X : Type 0} (f g : X → EnabledTernary) (xs : List X) → greatest (map (λ x. greater (f x) (g x)) xs) ≡ greater (greatest (map f xs)) (greatest (map g xs))
greatest-greater f g [] = refl
greatest-greater f g (x ∷ xs) =
    ap (greater (greater (f x) (g x))) (greatest-greater f g xs) ∙ greater_exchange (f x) (g x) (greatest (map f xs)) (greatest (map g xs))

-- the values of a list's elements up to i and of the next one, x, make the greatest up to x
pub greatest-next : {X : Type 0} (f : X → EnabledTernary) (xs : List X) (i : ℕ) (x : X) → i < length xs → x ≡ get_or xs i x → (so_far next value : EnabledTernary) → so_far ≡ greatest (map f (take i xs)) → next ≡ f x → value ≡ greater so_far next → value ≡ greatest (map f (take (i + 1) xs))
greatest-next f xs i x within is so_far next value so_far-is next-is value-is =
    value-is ∙ (λ k. greater (so_far-is k) (next-is k)) ∙ ap (greater (greatest (map f (take i xs)))) (sym (greater_disabled-right (f x))) ∙ sym (greatest-append f (take i xs) (x ∷ [])) ∙ ap (λ l. greatest (map f l)) (ap (λ y. take i xs ++ y ∷ []) is ∙ sym (take_more xs i x within))

-- where these are `Enabled`, so is the whole list
pub greatest-decided : {X : Type 0} (f : X → EnabledTernary) (xs : List X) (i : ℕ) (x : X) → i < length xs → x ≡ get_or xs i x → (so_far next value : EnabledTernary) → so_far ≡ greatest (map f (take i xs)) → next ≡ f x → value ≡ greater so_far next → value ≡ Enabled → value ≡ greatest (map f xs)
greatest-decided f xs i x within is so_far next value so_far-is next-is value-is decided =
    decided ∙ sym (greater_enabled-left (greatest (map f (drop (i + 1) xs)))) ∙ ap (λ a. greater a (greatest (map f (drop (i + 1) xs)))) (sym decided ∙ greatest-next f xs i x within is so_far next value so_far-is next-is value-is) ∙ sym (greatest-append f (take (i + 1) xs) (drop (i + 1) xs)) ∙ ap (λ l. greatest (map f l)) (take-append-drop (i + 1) xs)
