-- Copies of requirements are seen as what they are copies of.
use Rattle.std.proofs.Common.{◌≡◌, ℕ, List, [], ◌∷◌, Option, Some, None, String, map, refl, ap, string_bytes}
use Rattle.std.specs.declared.alloc.Global.{Global}
use Rattle.std.specs.List.{AllZip}
use Rattle.semver.specs.Identifiers.{text_of}

-- lists whose items are seen alike, place by place
pub seen_alike : {A B : Type 0} (seen : A → B) {R : A → A → Type 0} → ((x y : A) → R x y → seen y ≡ seen x) → (xs ys : List A) → AllZip R xs ys → map seen ys ≡ map seen xs
seen_alike seen same [] [] all = refl
seen_alike seen same [] (y ∷ ys) all = absurd all
seen_alike seen same (x ∷ xs) [] all = absurd all
seen_alike seen same (x ∷ xs) (y ∷ ys) all = let here = same x y all.0 in let there = seen_alike seen same xs ys all.1 in rw (here, there) refl

abbrev IsCopy : {T : Type 0} → (T → T → Type 0) → Option T → Option T → Type 0
IsCopy C None None = Unit {0}
IsCopy C None (Some y) = ⊥
IsCopy C (Some x) None = ⊥
IsCopy C (Some x) (Some y) = C x y

pub same_number : (a b : Option ℕ) → IsCopy (λ x y. y ≡ x) a b → b ≡ a
same_number None None copy = refl
same_number None (Some y) copy = absurd copy
same_number (Some x) None copy = absurd copy
same_number (Some x) (Some y) copy = ap Some copy

pub same_text : (a b : Option (String Global)) → IsCopy (λ x y. string_bytes y ≡ string_bytes x) a b → text_of b ≡ text_of a
same_text None None copy = refl
same_text None (Some y) copy = absurd copy
same_text (Some x) None copy = absurd copy
same_text (Some x) (Some y) copy = copy
