-- A word, and a text between quotes, from both sides: what is read stands there, and what stands there is read.
use Rattle.std.proofs.Common.{◌≡◌, ◌≢◌, ℕ, suc, ◌+◌, ◌<◌, Bool, true, false, cond, eqb, ltb, List, [], ◌∷◌, ◌++◌, length, Some, None, take, drop, refl, sym, ap, ap₂, ◌∙◌, subst, arith, append_assoc, length-append}
use Rattle.std.specs.Prelude.{not, ◌||◌, option_map, option_and_then, position, IsTrue}
use Rattle.std.specs.Int.{is_in_range}
use Rattle.std.specs.List.{AllByRecursion, position_or_len}
use Rattle.std.specs.Str.{byte}
use Rattle.std.proofs.lemmas.Bool.Decides.{Decides-eqb, nat_tests}
use Rattle.std.proofs.lemmas.List.{take-append-drop, take_at}
use Rattle.std.proofs.lemmas.Option.{cond_some}
use Rattle.guppy_target.specs.Grammar.{word, quoted, starts_word, is_of_word, IsWord, EndsWord, Begins}
use Rattle.guppy_target.specs.Reading.{after_spaces, mark_at, split_word, word_first, word_at, quoted_behind, quoted_at}
use Rattle.guppy_target.proofs.Fronts.{Spaced, spaced, after_spaces_of, mark_takes, mark_again}
use Rattle.guppy_target.proofs.Options.{bind_some, map_some}

-- how long the word at the front is
abbrev run : List ℕ → ℕ
run cs = position_or_len (λ c. not (is_of_word c)) cs

run_yes : (c : ℕ) (cs : List ℕ) → is_of_word c ≡ true → run (c ∷ cs) ≡ suc (run cs)
run_yes c cs h = let e : 1 + run cs ≡ suc (run cs) = omega arith in ap (λ (b : Bool). cond (not (not b)) (1 + run cs) 0) h ∙ e

run_no : (c : ℕ) (cs : List ℕ) → is_of_word c ≡ false → run (c ∷ cs) ≡ 0
run_no c cs h = ap (λ (b : Bool). cond (not (not b)) (1 + run cs) 0) h

abbrev Parts : List ℕ → ℕ → Type 0
Parts cs n = AllByRecursion (λ d. IsTrue (is_of_word d)) (take n cs) × EndsWord (drop n cs)

parts_more : (c : ℕ) (cs : List ℕ) (b : Bool) → is_of_word c ≡ b → Parts cs (run cs) → Parts (c ∷ cs) (cond (not (not b)) (1 + run cs) 0)
parts_more c cs true is h = let e : 1 + run cs ≡ suc (run cs) = omega arith in rw e ((is, h.0), h.1)
parts_more c cs false is h = (tt, is)

parts : (cs : List ℕ) → Parts cs (run cs)
parts [] = (tt, tt)
parts (c ∷ cs) = parts_more c cs (is_of_word c) refl (parts cs)

either_more : (a b d e : Bool) → ((b || d) || e) ≡ true → (((a || b) || d) || e) ≡ true
either_more true b d e h = refl
either_more false b d e h = h

-- what begins a word may go on in it
pub starts_is_of_word : (c : ℕ) → starts_word c ≡ true → is_of_word c ≡ true
starts_is_of_word c h = either_more (is_in_range (byte "0") (byte "9") c) (is_in_range (byte "A") (byte "Z") c) (is_in_range (byte "a") (byte "z") c) (eqb c (byte "_")) h

word_first_some : (text : List ℕ) (x : List ℕ × List ℕ) → word_first text ≡ Some x → (text ≡ x.0 ++ x.1) × IsWord x.0 × EndsWord x.1
word_first_some [] x e = absurd (cc)
word_first_some (c ∷ cs) x e =
    let is = cond_some (starts_word c) (split_word (c ∷ cs)) x e in
    let first : IsWord (take (run (c ∷ cs)) (c ∷ cs)) = subst (λ (n : ℕ). IsWord (take n (c ∷ cs))) (sym (run_yes c cs (starts_is_of_word c is.0))) (is.0, (parts cs).0) in
    subst (λ (y : List ℕ × List ℕ). ((c ∷ cs) ≡ y.0 ++ y.1) × IsWord y.0 × EndsWord y.1) is.1
    (sym (take-append-drop (run (c ∷ cs)) (c ∷ cs)), first, (parts (c ∷ cs)).1)

pub word_takes : (text : List ℕ) (x : List ℕ × List ℕ) → word_at text ≡ Some x → Begins (word x.0) text x.1
unfolding word_at
word_takes text x e =
    let s = spaced text in
    let f = word_first_some (after_spaces text) x e in
    record { spaces = s.0; are_spaces = s.1; text_is = s.2 ∙ ap (λ (l : List ℕ). s.0 ++ l) f.0; is_token = (f.1, f.2) }

run_of : (w rest : List ℕ) → AllByRecursion (λ d. IsTrue (is_of_word d)) w → EndsWord rest → run (w ++ rest) ≡ length w
run_of [] [] all ends = refl
run_of [] (c ∷ cs) all ends = run_no c cs ends
run_of (c ∷ w) rest all ends = run_yes c (w ++ rest) all.0 ∙ ap suc (run_of w rest all.1 ends)

pub drop_at : (w rest : List ℕ) → drop (length w) (w ++ rest) ≡ rest
drop_at [] rest = refl
drop_at (c ∷ w) rest = drop_at w rest

no_space : (c : ℕ) (b : Bool) → eqb c (byte " ") ≡ b → starts_word c ≡ true → b ≡ false
no_space c true is h = let no : false ≡ true = subst (λ (n : ℕ). starts_word n ≡ true) ((Decides-eqb c (byte " ")).0 is) h in absurd (cc)
no_space c false is h = refl

-- no space begins a word
pub word_start : (c : ℕ) → starts_word c ≡ true → eqb c (byte " ") ≡ false
word_start c h = no_space c (eqb c (byte " ")) refl h

pub word_again : (w text behind : List ℕ) → Begins (word w) text behind → word_at text ≡ Some (w, behind)
unfolding word_at
word_again [] text behind h = absurd h.is_token.0
word_again (c ∷ cs) text behind h =
    let starts : starts_word c ≡ true = h.is_token.0.0 in
    let there : after_spaces text ≡ (c ∷ cs) ++ behind = ap after_spaces h.text_is ∙ after_spaces_of h.spaces ((c ∷ cs) ++ behind) h.are_spaces (word_start c starts) in
    let len : run ((c ∷ cs) ++ behind) ≡ length (c ∷ cs) = run_of (c ∷ cs) behind (starts_is_of_word c starts, h.is_token.0.1) h.is_token.1 in
    let cut : split_word ((c ∷ cs) ++ behind) ≡ (c ∷ cs, behind) =
    ap (λ (n : ℕ). (take n ((c ∷ cs) ++ behind), drop n ((c ∷ cs) ++ behind))) len
    ∙ ap₂ (λ (a b : List ℕ). (a, b)) (take_at (c ∷ cs) behind (length (c ∷ cs)) refl) (drop_at (c ∷ cs) behind) in
    ap word_first there ∙ ap (λ (b : Bool). cond b (Some (split_word ((c ∷ cs) ++ behind))) None) starts ∙ ap Some cut

-- where the first quote is
abbrev quote : List ℕ → ℕ
quote cs = position_or_len (λ c. eqb c (byte "\"")) cs

abbrev Closed : List ℕ → ℕ → Type 0
Closed cs n = (cs ≡ take n cs ++ (byte "\"" ∷ drop (n + 1) cs)) × AllByRecursion (λ c. c ≢ byte "\"") (take n cs)

closed_suc : (c : ℕ) (cs : List ℕ) (n : ℕ) → c ≢ byte "\"" → Closed cs n → Closed (c ∷ cs) (suc n)
closed_suc c cs n other h = let e : suc n + 1 ≡ suc (n + 1) = omega arith in rw e (ap (λ (l : List ℕ). c ∷ l) h.0, (other, h.1))

closed_more : (c : ℕ) (cs : List ℕ) (b : Bool) → eqb c (byte "\"") ≡ b → (quote cs < length cs → Closed cs (quote cs)) → cond (not b) (1 + quote cs) 0 < length (c ∷ cs)
    → Closed (c ∷ cs) (cond (not b) (1 + quote cs) 0)
closed_more c cs true is h lt = (ap (λ (d : ℕ). d ∷ cs) ((Decides-eqb c (byte "\"")).0 is), tt)
closed_more c cs false is h lt =
    let e : 1 + quote cs ≡ suc (quote cs) = omega arith in
    let other : c ≢ byte "\"" = λ same. (let yes : eqb c (byte "\"") ≡ true = (Decides-eqb c (byte "\"")).1 same in absurd (cc)) in
    rw e (closed_suc c cs (quote cs) other (h (omega arith)))

closed : (cs : List ℕ) → quote cs < length cs → Closed cs (quote cs)
closed [] lt = absurd (omega arith)
closed (c ∷ cs) lt = closed_more c cs (eqb c (byte "\"")) refl (closed cs) lt

pub quoted_takes : (text : List ℕ) (x : List ℕ × List ℕ) → quoted_at text ≡ Some x → Begins (quoted x.0) text x.1
unfolding quoted_at
quoted_takes text x e =
    let b = bind_some quoted_behind (mark_at (byte "\"") text) x e in
    let cs : List ℕ = b.0 in
    let s = mark_takes (byte "\"") text cs b.1 in
    let m = map_some (λ (n : ℕ). (take n cs, drop (n + 1) cs)) (position (λ c. eqb c (byte "\"")) cs) x b.2 in
    let p = cond_some (ltb (quote cs) (length cs)) (quote cs) m.0 m.1 in
    let test : ltb (quote cs) (length cs) ≡ true = p.0 in
    let lt : quote cs < length cs = grind (arith, nat_tests) in
    let c : Closed cs m.0 = subst (λ (n : ℕ). Closed cs n) p.1 (closed cs lt) in
    let is : text ≡ s.0 ++ ((byte "\"" ∷ (take m.0 cs ++ byte "\"" ∷ [])) ++ drop (m.0 + 1) cs) =
    s.2 ∙ ap (λ (l : List ℕ). s.0 ++ (byte "\"" ∷ l)) (c.0 ∙ sym (append_assoc (take m.0 cs) (byte "\"" ∷ []) (drop (m.0 + 1) cs))) in
    subst (λ (y : List ℕ × List ℕ). Begins (quoted y.0) text y.1) m.2
    (record { spaces = s.0; are_spaces = s.1; text_is = is; is_token = c.1 })

quote_of : (v rest : List ℕ) → AllByRecursion (λ c. c ≢ byte "\"") v → quote (v ++ (byte "\"" ∷ rest)) ≡ length v
quote_of [] rest all = refl
quote_of (c ∷ v) rest all =
    let no : eqb c (byte "\"") ≡ false = grind (arith, nat_tests, all.0) in
    let e : 1 + quote (v ++ (byte "\"" ∷ rest)) ≡ suc (length v) = omega (arith, quote_of v rest all.1) in
    ap (λ (b : Bool). cond (not b) (1 + quote (v ++ (byte "\"" ∷ rest))) 0) no ∙ e

drop_past : (v rest : List ℕ) → drop (length v + 1) (v ++ (byte "\"" ∷ rest)) ≡ rest
drop_past [] rest = refl
drop_past (c ∷ v) rest = let e : suc (length v) + 1 ≡ suc (length v + 1) = omega arith in rw e (drop_past v rest)

pub quoted_again : (v text behind : List ℕ) → Begins (quoted v) text behind → quoted_at text ≡ Some (v, behind)
unfolding quoted_at
quoted_again v text behind h =
    let l : List ℕ = v ++ (byte "\"" ∷ behind) in
    let there : Spaced text (byte "\"" ∷ l) = (h.spaces, h.are_spaces, h.text_is ∙ ap (λ (t : List ℕ). h.spaces ++ (byte "\"" ∷ t)) (append_assoc v (byte "\"" ∷ []) behind)) in
    let at : quote l ≡ length v = quote_of v behind h.is_token in
    let lt : ltb (quote l) (length l) ≡ true = (let s = length-append v (byte "\"" ∷ behind) in grind (arith, nat_tests)) in
    let place : position (λ c. eqb c (byte "\"")) l ≡ Some (length v) = ap (λ (b : Bool). cond b (Some (quote l)) None) lt ∙ ap Some at in
    ap (option_and_then quoted_behind) (mark_again (byte "\"") text l refl there)
    ∙ ap (option_map (λ (n : ℕ). (take n l, drop (n + 1) l))) place
    ∙ ap Some (ap₂ (λ (a b : List ℕ). (a, b)) (take_at v (byte "\"" ∷ behind) (length v) refl) (drop_past v behind))
