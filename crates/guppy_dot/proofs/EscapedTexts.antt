-- What is escaped of texts.
use Rattle.std.proofs.Common.{◌≡◌, ◌≢◌, ◌∙◌, refl, sym, ap, ℕ, suc, ◌<◌, Bool, true, false, List, [], ◌∷◌, ◌++◌, ◌||◌, length, get_or, eqb, cond, arith, append_assoc}
use Rattle.std.specs.Char.{encode_utf8}
use Rattle.std.specs.Str.{encode_utf8_all}
use Rattle.std.proofs.lemmas.Bool.Decides.{nat_tests}
use Rattle.std.proofs.lemmas.Grind.{flat_map-append}
use Rattle.std.proofs.lemmas.List.{append-nil}
use Rattle.std.proofs.lemmas.Str.{inside_one, encodes-append}
use Rattle.guppy_dot.specs.Quoted.{escape, escaped}

-- a text without such characters
plain : (bs : List ℕ) → ((k : ℕ) → k < length bs → (get_or bs k 0 ≢ 34) × (get_or bs k 0 ≢ 92)) → escaped bs ≡ bs
plain [] none = refl
plain (b ∷ bs) none =
    let here = none 0 (omega arith) in
    let rest : escaped bs ≡ bs = plain bs (λ k within. none (suc k) (omega arith)) in
    grind (arith, nat_tests, here.0, here.1, rest)

pub escaped_append : (xs ys : List ℕ) → escaped (xs ++ ys) ≡ escaped xs ++ escaped ys
escaped_append xs ys = flat_map-append _ xs ys

-- another character
pub escaped_other : (c : ℕ) → c ≢ 34 → c ≢ 92 → escaped (encode_utf8 c) ≡ encode_utf8 c
escaped_other c mark slash = plain (encode_utf8 c) (λ k within. (
  λ is. mark (inside_one c [] (encode_utf8 c) k (sym (append-nil (encode_utf8 c))) within (omega (arith, is)) ∙ is),
  λ is. slash (inside_one c [] (encode_utf8 c) k (sym (append-nil (encode_utf8 c))) within (omega (arith, is)) ∙ is),
))

-- one more character
pub escaped_push : (cs : List ℕ) (c : ℕ) → escaped (encode_utf8_all (cs ++ c ∷ [])) ≡ escaped (encode_utf8_all cs) ++ escaped (encode_utf8 c)
escaped_push cs c = ap escaped (encodes-append cs (c ∷ []) ∙ ap (λ l. encode_utf8_all cs ++ l) (append-nil (encode_utf8 c))) ∙ escaped_append (encode_utf8_all cs) (encode_utf8 c)

-- what is escaped of a byte begins with a backslash and has the byte behind it, or is the byte, which is no quotation mark and no backslash
data Escape (b : ℕ) (text : List ℕ) : Type 0 where
  behind : text ≡ 92 ∷ b ∷ [] → Escape b text
  alone : b ≢ 34 → b ≢ 92 → text ≡ b ∷ [] → Escape b text

first_of_two : (b : ℕ) (mark slash : Bool) → eqb b 34 ≡ mark → eqb b 92 ≡ slash → Escape b (cond (mark || slash) (92 ∷ b ∷ []) (b ∷ []))
first_of_two b true slash is is' = behind refl
first_of_two b false true is is' = behind refl
first_of_two b false false is is' = alone (λ e. absurd (grind (arith, nat_tests, is, e))) (λ e. absurd (grind (arith, nat_tests, is', e))) refl

escape_of : (b : ℕ) → Escape b (escape b)
escape_of b = first_of_two b (eqb b 34) (eqb b 92) refl refl

pub firsts : (x y : ℕ) (u v : List ℕ) → x ∷ u ≡ y ∷ v → (x ≡ y) × (u ≡ v)
firsts x y u v same = (cc same, cc same)

apart : ◌≢◌ {A = ℕ} 34 92
apart e = absurd (omega (arith, e))

-- a quotation mark alone begins no escaped byte
never_first : (b : ℕ) (text u v : List ℕ) → Escape b text → 34 ∷ u ≡ text ++ v → ⊥
never_first b text u v (behind is) same = apart (firsts 34 92 u (b ∷ v) (same ∙ ap (λ t. t ++ v) is)).0
never_first b text u v (alone mark slash is) same = mark (sym (firsts 34 b u v (same ∙ ap (λ t. t ++ v) is)).0)

-- texts that begin with an escaped byte each, and are the same, go on alike behind the same byte
same_first : (a b : ℕ) (first second u v : List ℕ) → Escape a first → Escape b second → first ++ u ≡ second ++ v → (a ≡ b) × (u ≡ v)
same_first a b first second u v (behind is) (behind is') same =
    firsts a b u v (firsts 92 92 (a ∷ u) (b ∷ v) (ap (λ t. t ++ u) (sym is) ∙ same ∙ ap (λ t. t ++ v) is')).1
same_first a b first second u v (behind is) (alone mark slash is') same =
    absurd (slash (sym (firsts 92 b (a ∷ u) v (ap (λ t. t ++ u) (sym is) ∙ same ∙ ap (λ t. t ++ v) is')).0))
same_first a b first second u v (alone mark slash is) (behind is') same =
    absurd (slash (firsts a 92 u (b ∷ v) (ap (λ t. t ++ u) (sym is) ∙ same ∙ ap (λ t. t ++ v) is')).0)
same_first a b first second u v (alone mark slash is) (alone mark' slash' is') same =
    firsts a b u v (ap (λ t. t ++ u) (sym is) ∙ same ∙ ap (λ t. t ++ v) is')

-- up to the first quotation mark that has no backslash in front
pub delimited : (a b rest more : List ℕ) → escaped a ++ 34 ∷ rest ≡ escaped b ++ 34 ∷ more → (a ≡ b) × (rest ≡ more)
delimited [] [] rest more same = (refl, (firsts 34 34 rest more same).1)
delimited [] (y ∷ ys) rest more same = absurd (never_first y (escape y) rest (escaped ys ++ 34 ∷ more) (escape_of y) (same ∙ append_assoc (escape y) (escaped ys) (34 ∷ more)))
delimited (x ∷ xs) [] rest more same = absurd (never_first x (escape x) more (escaped xs ++ 34 ∷ rest) (escape_of x) (sym same ∙ append_assoc (escape x) (escaped xs) (34 ∷ rest)))
delimited (x ∷ xs) (y ∷ ys) rest more same =
    let first = same_first x y (escape x) (escape y) (escaped xs ++ 34 ∷ rest) (escaped ys ++ 34 ∷ more) (escape_of x) (escape_of y)
    (sym (append_assoc (escape x) (escaped xs) (34 ∷ rest)) ∙ same ∙ append_assoc (escape y) (escaped ys) (34 ∷ more)) in
    let rests = delimited xs ys rest more first.1 in
    (ap (λ z. z ∷ xs) first.0 ∙ ap (λ zs. y ∷ zs) rests.0, rests.1)
