-- The first part of a text that is cut at a byte.
use Rattle.std.proofs.Common.{◌≡◌, ◌≢◌, ℕ, ◌+◌, ◌<◌, ◌≤◌, ⊎_elim, inl, inr, Bool, true, false, cond, List, [], ◌∷◌, ◌++◌, length, get_or, ◌∙◌, ap, refl, arith}
use Rattle.std.specs.Prelude.{not, ◌==◌, codes, is_some}
use Rattle.std.specs.Option.{option_copied}
use Rattle.std.specs.List.{slice_split, onto_first, prefix_len, position_or_len, before_first, after_first}
use Rattle.std.proofs.lemmas.List.Splits.{slice_split_first}
use Rattle.std.proofs.Common.{Option, None, Some, Bor}
use Rattle.std.specs.Str.{bytes_eq}
use Rattle.std.proofs.lemmas.Bool.{cases_Bool, cases_lt, false_from_ne_true, eqb-true}
use Rattle.std.proofs.lemmas.List.Sums.{prefix_len-le-length, split_at_first, passes_at_first}
use Rattle.std.proofs.lemmas.Slice.Eq.{bytes_eq-Decides}
use Rattle.guppy_data.specs.declared.texts.dependency_kind.DependencyKind.{DependencyKind}
use Rattle.guppy_lines.specs.Text.{words, words_after, statement_of_words}
use Rattle.guppy_command.specs.Text.{is_empty, section_of}

-- where nothing passes, the one part is all
pub split_none : {X : Type 0} (p : X → Bool) (xs : List X) → position_or_len p xs ≡ length xs → slice_split p xs ≡ xs ∷ []
split_none p [] e = refl
split_none p (x ∷ xs) e =
    elim (p x) as (λ b. cond (not b) (1 + prefix_len (λ y. not (p y)) xs) 0 ≡ length (x ∷ xs) → cond b ([] ∷ slice_split p xs) (onto_first x (slice_split p xs)) ≡ (x ∷ xs) ∷ [])
    [ true ↦ λ h. absurd (omega arith) | false ↦ λ h. let same : position_or_len p xs ≡ length xs = omega arith in rw (split_none p xs same) refl ] e

pub words_only : (text : List ℕ) → position_or_len (λ b. b == 32) text ≡ length text → words text ≡ text ∷ []
unfolding words
words_only text e = split_none _ text e

pub words_first : (text a b : List ℕ) → a ≡ before_first (λ x. x == 32) text → b ≡ after_first (λ x. x == 32) text → position_or_len (λ x. x == 32) text < length text → words text ≡ a ∷ words b
unfolding words
words_first text a b front back h = rw (front, back) (slice_split_first (λ x. x == 32) text 0 h)

-- there is always a first part
pub split_some : {X : Type 0} (p : X → Bool) (xs : List X) (P : List (List X) → Type 0) → ((w : List X) (ws : List (List X)) → P (w ∷ ws)) → P (slice_split p xs)
split_some p [] P h = h [] []
split_some p (x ∷ xs) P h = elim (p x) as (λ b. P (cond b ([] ∷ slice_split p xs) (onto_first x (slice_split p xs)))) [ true ↦ h [] _ | false ↦ elim (slice_split p xs) as (λ l. P (onto_first x l)) [ [] ↦ h _ _ | w ∷ ws ↦ h _ _ ] ]

-- what is tested for being empty
pub empty_is : (text : List ℕ) → (length text == 0) ≡ true → text ≡ []
empty_is [] h = refl
empty_is (b ∷ text) h = let none : length (b ∷ text) ≡ 0 = eqb-true (length (b ∷ text)) 0 h in absurd (omega arith)

pub full_is : (text : List ℕ) → (length text == 0) ≡ false → is_empty text ≡ false
full_is [] h = absurd (cc)
full_is (b ∷ text) h = refl

-- the words behind a first one
pub words_behind : (rest : Option (Bor (List ℕ))) → is_some rest ≡ true → (text : List ℕ) × (words_after (option_copied rest) ≡ words text)
words_behind None h = absurd (cc)
words_behind (Some text) h = (text.now, refl)

-- a package has one word, which isn't empty
pub package_empty : (others : List (List ℕ)) → statement_of_words (codes "package" ∷ [] ∷ others) ≡ None
package_empty [] = refl
package_empty (x ∷ []) = refl
package_empty (x ∷ y ∷ []) = refl
package_empty (x ∷ y ∷ z ∷ zs) = refl

pub package_more : (id text : List ℕ) → statement_of_words (codes "package" ∷ id ∷ words text) ≡ None
unfolding words
package_more id text = split_some (λ b. b == 32) text (λ l. statement_of_words (codes "package" ∷ id ∷ l) ≡ None)
    (λ w ws. elim ws as (λ l. statement_of_words (codes "package" ∷ id ∷ w ∷ l) ≡ None) [ [] ↦ refl | x ∷ xs ↦ elim xs as (λ l. statement_of_words (codes "package" ∷ id ∷ w ∷ x ∷ l) ≡ None) [ [] ↦ refl | y ∷ ys ↦ refl ] ])

-- what is a section has no space
pub section_word : (text : List ℕ) (section : DependencyKind) → section_of text ≡ Some section → words text ≡ text ∷ []
unfolding words
section_word text section is = elim (cases_Bool (bytes_eq text (codes "normal"))) [
  | inl normal ↦ rw ((bytes_eq-Decides text (codes "normal")).0 normal) refl
  | inr not_normal ↦ elim (cases_Bool (bytes_eq text (codes "build"))) [
    | inl build ↦ rw ((bytes_eq-Decides text (codes "build")).0 build) refl
    | inr not_build ↦ elim (cases_Bool (bytes_eq text (codes "dev"))) [
      | inl dev ↦ rw ((bytes_eq-Decides text (codes "dev")).0 dev) refl
      | inr not_dev ↦ absurd (let none : None ≡ Some section = rw (not_normal, not_build, not_dev) at is in cc)
    ]
  ]
]

-- a link ends in a section
link_ends : (from to text : List ℕ) → section_of text ≡ None → statement_of_words (codes "link" ∷ from ∷ to ∷ text ∷ []) ≡ None
link_ends [] to text none = refl
link_ends (b ∷ from) [] text none = refl
link_ends (b ∷ from) (d ∷ to) text none = rw none refl

link_more : (from to word text : List ℕ) → statement_of_words (codes "link" ∷ from ∷ to ∷ word ∷ words text) ≡ None
unfolding words
link_more from to word text = split_some (λ b. b == 32) text (λ l. statement_of_words (codes "link" ∷ from ∷ to ∷ word ∷ l) ≡ None) (λ w ws. refl)

pub link_unsectioned : (from to text : List ℕ) → section_of text ≡ None → statement_of_words (codes "link" ∷ from ∷ to ∷ words text) ≡ None
link_unsectioned from to text none = ⊎_elim
    (λ (lt : position_or_len (λ b. b == 32) text < length text). rw (words_first text (before_first (λ b. b == 32) text) (after_first (λ b. b == 32) text) refl refl lt) (link_more from to (before_first (λ b. b == 32) text) (after_first (λ b. b == 32) text)))
    (λ (ge : length text ≤ position_or_len (λ b. b == 32) text).
    let few = prefix_len-le-length (λ b. not (b == 32)) text in
    rw (words_only text (omega arith)) (link_ends from to text none))
    (cases_lt (position_or_len (λ b. b == 32) text) (length text))

-- a text that begins so, and its words
pub package_words : (text rest : List ℕ) → text ≡ codes "package " ++ rest → words text ≡ codes "package" ∷ words rest
unfolding words
package_words text rest is = rw is refl

pub link_words : (text rest : List ℕ) → text ≡ codes "link " ++ rest → words text ≡ codes "link" ∷ words rest
unfolding words
link_words text rest is = rw is refl

-- a text that begins otherwise says nothing
says_nothing : (word : List ℕ) (others : List (List ℕ)) → bytes_eq word (codes "package") ≡ false → bytes_eq word (codes "link") ≡ false → statement_of_words (word ∷ others) ≡ None
says_nothing word [] no_package no_link = refl
says_nothing word (x ∷ []) no_package no_link = rw no_package refl
says_nothing word (x ∷ y ∷ []) no_package no_link = refl
says_nothing word (x ∷ y ∷ z ∷ []) no_package no_link = rw no_link refl
says_nothing word (x ∷ y ∷ z ∷ w ∷ ws) no_package no_link = refl

pub no_statement : (text : List ℕ) → ((rest : List ℕ) → text ≢ codes "package " ++ rest) → ((rest : List ℕ) → text ≢ codes "link " ++ rest) → statement_of_words (words text) ≡ None
no_statement text no_package no_link =
    let is_space : ℕ → Bool = λ b. b == 32 in
    let word = before_first is_space text in
    let rest = after_first is_space text in
    ⊎_elim
    (λ (lt : position_or_len is_space text < length text).
    let space : get_or text (position_or_len is_space text) 0 ≡ 32 = eqb-true (get_or text (position_or_len is_space text) 0) 32 (passes_at_first is_space text 0 lt) in
    let parts : text ≡ word ++ 32 ∷ rest = split_at_first is_space text 0 lt ∙ ap (λ b. word ++ b ∷ rest) space in
    let differs = λ (front : List ℕ) (lacks : (r : List ℕ) → text ≢ front ++ 32 ∷ r) (same : bytes_eq word front ≡ true).
    lacks rest (parts ∙ ap (λ l. l ++ 32 ∷ rest) ((bytes_eq-Decides word front).0 same)) in
    rw (words_first text word rest refl refl lt)
    (says_nothing word (words rest) (false_from_ne_true (bytes_eq word (codes "package")) (differs (codes "package") no_package)) (false_from_ne_true (bytes_eq word (codes "link")) (differs (codes "link") no_link))))
    (λ (ge : length text ≤ position_or_len is_space text).
    let few = prefix_len-le-length (λ b. not (b == 32)) text in
    rw (words_only text (omega arith)) refl)
    (cases_lt (position_or_len is_space text) (length text))
