-- What stands there is read: a text whose front has the tokens of a predicate gives that predicate.
use Rattle.std.proofs.Common.{◌≡◌, ◌≢◌, ℕ, ◌-◌, ◌≤◌, ◌<◌, Bool, true, false, cond, eqb, List, [], ◌∷◌, ◌++◌, length, Some, None, inl, inr, refl, sym, ap, ◌∙◌, subst, arith, length-append}
use Rattle.std.specs.Prelude.{Option, Decides, codes, option_map, option_and_then}
use Rattle.std.specs.Str.{byte, bytes_eq}
use Rattle.std.proofs.lemmas.Bool.Decides.{Decides-eqb}
use Rattle.std.proofs.lemmas.Slice.Eq.{bytes_eq-Decides}
use Rattle.guppy_target.specs.Cfg.{Setting, name, pair, Predicate, Predicates, is_set, all_of, any_of, not_of, constant, no_more, also, levels, levels_of_each}
use Rattle.guppy_target.specs.Grammar.{Token, word, quoted, mark, starts_word, IsOperator, Begins, Lies, applied, constant_word, Spells, SpellsEach, SpellsSetting}
use Rattle.guppy_target.specs.Reading.{mark_at, quoted_at, bare, setting_from, setting_at, closed, negated_at, operands_on, operands_step, operands_at, all_operands_at, predicate_from, predicate_at}
use Rattle.guppy_target.proofs.Fronts.{mark_again, mark_other}
use Rattle.guppy_target.proofs.Words.{word_again, quoted_again}
use Rattle.guppy_target.proofs.Turns.{turn, operand, level}
use Rattle.guppy_target.proofs.Soundness.{lies_longer}

cond_false : {A : Type 0} (b : Bool) (x y : A) → b ≡ false → cond b x y ≡ y
cond_false true x y e = absurd (cc)
cond_false false x y e = refl

decided_no : {P : Type 0} (b : Bool) → Decides b P → (P → ⊥) → b ≡ false
decided_no true d h = absurd (h (d.0 refl))
decided_no false d h = refl

other_text : (w t : List ℕ) → (w ≡ t → ⊥) → bytes_eq w t ≡ false
other_text w t h = decided_no (bytes_eq w t) (bytes_eq-Decides w t) h

Lies-split : (ts us : List Token) (text behind : List ℕ) → Lies (ts ++ us) text behind → (mid : List ℕ) × Lies ts text mid × Lies us mid behind
Lies-split [] us text behind h = (text, refl, h)
Lies-split (t ∷ ts) us text behind h = let s = Lies-split ts us h.0 behind h.2 in (s.0, (h.0, h.1, s.1), s.2)

mark_longer : (m : ℕ) (text behind : List ℕ) → Begins (mark m) text behind → length behind < length text
mark_longer m text behind h =
    let whole = length-append h.spaces (m ∷ behind) in
    let all : length text ≡ length (h.spaces ++ (m ∷ behind)) = ap length h.text_is in
    omega arith

pub mark_is : (m : ℕ) (text behind : List ℕ) → eqb m (byte " ") ≡ false → Begins (mark m) text behind → mark_at m text ≡ Some behind
mark_is m text behind n h = mark_again m text behind n (h.spaces, h.are_spaces, h.text_is)

mark_not : (m c : ℕ) (text behind : List ℕ) → eqb c (byte " ") ≡ false → eqb c m ≡ false → Begins (mark c) text behind → mark_at m text ≡ None
mark_not m c text behind n o h = mark_other m c text behind n o (h.spaces, h.are_spaces, h.text_is)

differs : (m c : ℕ) → starts_word m ≡ false → starts_word c ≡ true → eqb c m ≡ false
differs m c n h = decided_no (eqb c m) (Decides-eqb c m) (λ is. (let both : starts_word m ≡ true = subst (λ (k : ℕ). starts_word k ≡ true) is h in absurd (cc)))

word_not : (w text behind : List ℕ) → Begins (word w) text behind → mark_at (byte ")") text ≡ None
word_not [] text behind h = absurd h.is_token.0
word_not (c ∷ cs) text behind h =
    mark_other (byte ")") c text (cs ++ behind) (differs (byte " ") c refl h.is_token.0.0) (differs (byte ")") c refl h.is_token.0.0) (h.spaces, h.are_spaces, h.text_is)

-- each predicate begins with a word
first_word : (p : Predicate) (ts : List Token) → Spells p ts → (w : List ℕ) × (us : List Token) × (ts ≡ word w ∷ us)
first_word (is_set (name w)) ts h = (w, [], h.3)
first_word (is_set (pair k v)) ts h = (k, mark (byte "=") ∷ quoted v ∷ [], h.1)
first_word (all_of ps) ts h = (codes "all", mark (byte "(") ∷ h.0 ++ mark (byte ")") ∷ [], h.2)
first_word (any_of ps) ts h = (codes "any", mark (byte "(") ∷ h.0 ++ mark (byte ")") ∷ [], h.2)
first_word (not_of p) ts h = (codes "not", mark (byte "(") ∷ h.0 ++ mark (byte ")") ∷ [], h.2)
first_word (constant b) ts h = (constant_word b, [], h)

no_parenthesis : (p : Predicate) (ts : List Token) (text behind : List ℕ) → Spells p ts → Lies ts text behind → mark_at (byte ")") text ≡ None
no_parenthesis p ts text behind h lies =
    let f = first_word p ts h in
    let l : Lies (word f.0 ∷ f.1) text behind = subst (λ (us : List Token). Lies us text behind) f.2 lies in
    word_not f.0 text l.0 l.1

-- where the parts of an operator with its operands lie
record Parts (operator : List ℕ) (inner : List Token) (text behind : List ℕ) : Type 0 where
  pub a : List ℕ
  pub b : List ℕ
  pub c : List ℕ
  pub begins : Begins (word operator) text a
  pub opens : Begins (mark (byte "(")) a b
  pub inside : Lies inner b c
  pub closes : Begins (mark (byte ")")) c behind

parts_of : (operator : List ℕ) (inner : List Token) (text behind : List ℕ) → Lies (applied operator inner) text behind → Parts operator inner text behind
parts_of operator inner text behind l =
    let s = Lies-split inner (mark (byte ")") ∷ []) l.2.0 behind l.2.2 in
    record { a = l.0; b = l.2.0; c = s.0; begins = l.1; opens = l.2.1; inside = s.1; closes = subst (λ (t : List ℕ). Begins (mark (byte ")")) s.0 t) s.2.2 s.2.1 }

-- the word of a text, and what it means
worded : (d : ℕ) (w text behind : List ℕ) → 0 < d → Begins (word w) text behind → predicate_at d text ≡ predicate_from (predicate_at (d - 1)) w behind
worded d w text behind some h =
    level d text some ∙ ap (option_and_then (λ (x : List ℕ × List ℕ). predicate_from (predicate_at (d - 1)) x.0 x.1)) (word_again w text behind h)

bare_name : (w : List ℕ) → w ≢ codes "true" → w ≢ codes "false" → bare w ≡ is_set (name w)
bare_name w t f =
    cond_false (bytes_eq w (codes "true")) (constant true) (cond (bytes_eq w (codes "false")) (constant false) (is_set (name w))) (other_text w (codes "true") t)
    ∙ cond_false (bytes_eq w (codes "false")) (constant false) (is_set (name w)) (other_text w (codes "false") f)

bare_constant : (b : Bool) → bare (constant_word b) ≡ constant b
bare_constant true = refl
bare_constant false = refl

setting_means : (read : List ℕ → Option (Predicate × List ℕ)) (w behind : List ℕ) → (IsOperator w → ⊥) → predicate_from read w behind ≡ setting_at w behind
setting_means read w behind op =
    let all : Option (Predicate × List ℕ) = option_map (λ x. (all_of x.0, x.1)) (all_operands_at read behind) in
    let any : Option (Predicate × List ℕ) = option_map (λ x. (any_of x.0, x.1)) (all_operands_at read behind) in
    let set : Option (Predicate × List ℕ) = setting_at w behind in
    cond_false (bytes_eq w (codes "not")) (negated_at read behind) (cond (bytes_eq w (codes "all")) all (cond (bytes_eq w (codes "any")) any set)) (other_text w (codes "not") (λ is. op (inr (inr is))))
    ∙ cond_false (bytes_eq w (codes "all")) all (cond (bytes_eq w (codes "any")) any set) (other_text w (codes "all") (λ is. op (inl is)))
    ∙ cond_false (bytes_eq w (codes "any")) any set (other_text w (codes "any") (λ is. op (inr (inl is))))

alone_means : (w behind : List ℕ) → mark_at (byte "=") behind ≡ None → setting_at w behind ≡ Some (bare w, behind)
unfolding setting_at
alone_means w behind e = ap (setting_from w behind) e

pair_means : (k v behind cs rest : List ℕ) → mark_at (byte "=") behind ≡ Some cs → quoted_at cs ≡ Some (v, rest) → setting_at k behind ≡ Some (is_set (pair k v), rest)
unfolding setting_at
pair_means k v behind cs rest e q =
    ap (setting_from k behind) e ∙ ap (option_map (λ (x : List ℕ × List ℕ). (is_set (pair k x.0), x.1))) q

constant_no_operator : (b : Bool) → IsOperator (constant_word b) → ⊥
constant_no_operator true (inl is) = absurd (cc)
constant_no_operator true (inr (inl is)) = absurd (cc)
constant_no_operator true (inr (inr is)) = absurd (cc)
constant_no_operator false (inl is) = absurd (cc)
constant_no_operator false (inr (inl is)) = absurd (cc)
constant_no_operator false (inr (inr is)) = absurd (cc)

-- a word alone
alone_again : (d : ℕ) (w text behind : List ℕ) → 0 < d → (IsOperator w → ⊥) → Lies (word w ∷ []) text behind → mark_at (byte "=") behind ≡ None → predicate_at d text ≡ Some (bare w, behind)
alone_again d w text behind some op l e =
    let begins : Begins (word w) text behind = subst (λ (t : List ℕ). Begins (word w) text t) l.2 l.1 in
    worded d w text behind some begins ∙ setting_means (predicate_at (d - 1)) w behind op ∙ alone_means w behind e

setting_again : (s : Setting) (d : ℕ) (ts : List Token) (text behind : List ℕ) → SpellsSetting s ts → 0 < d → Lies ts text behind → mark_at (byte "=") behind ≡ None
    → predicate_at d text ≡ Some (is_set s, behind)
setting_again (name w) d ts text behind h some lies e =
    let l : Lies (word w ∷ []) text behind = subst (λ (us : List Token). Lies us text behind) h.3 lies in
    alone_again d w text behind some h.0 l e ∙ ap (λ (p : Predicate). Some (p, behind)) (bare_name w h.1 h.2)
setting_again (pair k v) d ts text behind h some lies e =
    let l : Lies (word k ∷ mark (byte "=") ∷ quoted v ∷ []) text behind = subst (λ (us : List Token). Lies us text behind) h.1 lies in
    let q : Begins (quoted v) l.2.0 behind = subst (λ (t : List ℕ). Begins (quoted v) l.2.0 t) l.2.2.2 l.2.2.1 in
    worded d k text l.0 some l.1 ∙ setting_means (predicate_at (d - 1)) k l.0 h.0
    ∙ pair_means k v l.0 l.2.0 behind (mark_is (byte "=") l.0 l.2.0 refl l.2.1) (quoted_again v l.2.0 behind q)

module _ (read : List ℕ → Option (Predicate × List ℕ)) where
  none_again : (n : ℕ) (text behind : List ℕ) → length text ≤ n → Begins (mark (byte ")")) text behind → operands_at read n text ≡ Some (no_more, behind)
  none_again n text behind enough close =
      let longer = mark_longer (byte ")") text behind close in
      turn read n text (omega arith) ∙ ap (operands_step read (operands_at read (n - 1)) text) (mark_is (byte ")") text behind refl close)

  last_again : (n : ℕ) (p : Predicate) (text mid behind : List ℕ) → length text ≤ n → length mid ≤ length text → mark_at (byte ")") text ≡ None → read text ≡ Some (p, mid) → Begins (mark (byte ")")) mid behind
      → operands_at read n text ≡ Some (also p no_more, behind)
  last_again n p text mid behind enough less other r close =
      let longer = mark_longer (byte ")") mid behind close in
      operand read n text mid p (omega arith) other r
      ∙ ap (operands_on (operands_at read (n - 1)) p mid) (mark_not (byte ",") (byte ")") mid behind refl refl close)
      ∙ ap (option_map (λ (t : List ℕ). (also p no_more, t))) (mark_is (byte ")") mid behind refl close)

  more_again : (n : ℕ) (p : Predicate) (ps : Predicates) (text mid next behind : List ℕ) → 0 < n → mark_at (byte ")") text ≡ None → read text ≡ Some (p, mid) → Begins (mark (byte ",")) mid next
      → operands_at read (n - 1) next ≡ Some (ps, behind) → operands_at read n text ≡ Some (also p ps, behind)
  more_again n p ps text mid next behind some other r comma rest =
      operand read n text mid p some other r
      ∙ ap (operands_on (operands_at read (n - 1)) p mid) (mark_is (byte ",") mid next refl comma)
      ∙ ap (option_map (λ (y : Predicates × List ℕ). (also p y.0, y.1))) rest

  all_again : (ps : Predicates) (a b behind : List ℕ) → Begins (mark (byte "(")) a b → operands_at read (length b) b ≡ Some (ps, behind) → all_operands_at read a ≡ Some (ps, behind)
  unfolding all_operands_at
  all_again ps a b behind opens r = ap (option_and_then (λ (t : List ℕ). operands_at read (length t) t)) (mark_is (byte "(") a b refl opens) ∙ r

  negated_again : (p : Predicate) (a b c behind : List ℕ) → Begins (mark (byte "(")) a b → read b ≡ Some (p, c) → Begins (mark (byte ")")) c behind → negated_at read a ≡ Some (not_of p, behind)
  unfolding negated_at
  negated_again p a b c behind opens r closes =
      ap (option_and_then (λ (x : Predicate × List ℕ). closed x.0 x.1)) (ap (option_and_then read) (mark_is (byte "(") a b refl opens) ∙ r)
      ∙ ap (option_map (λ (t : List ℕ). (not_of p, t))) (mark_is (byte ")") c behind refl closes)

mutual
  pub again : (p : Predicate) (d : ℕ) (ts : List Token) (text behind : List ℕ) → Spells p ts → levels p ≤ d → Lies ts text behind → mark_at (byte "=") behind ≡ None → predicate_at d text ≡ Some (p, behind)
  again (is_set s) d ts text behind h deep lies e = setting_again s d ts text behind h (omega arith) lies e
  again (all_of ps) d ts text behind h deep lies e =
      let x = parts_of (codes "all") h.0 text behind (subst (λ (us : List Token). Lies us text behind) h.2 lies) in
      worded d (codes "all") text x.a (omega arith) x.begins
      ∙ ap (option_map (λ (y : Predicates × List ℕ). (all_of y.0, y.1)))
      (all_again (predicate_at (d - 1)) ps x.a x.b behind x.opens (each_again ps (d - 1) (length x.b) h.0 x.b x.c behind h.1 (omega arith) (omega arith) x.inside x.closes))
  again (any_of ps) d ts text behind h deep lies e =
      let x = parts_of (codes "any") h.0 text behind (subst (λ (us : List Token). Lies us text behind) h.2 lies) in
      worded d (codes "any") text x.a (omega arith) x.begins
      ∙ ap (option_map (λ (y : Predicates × List ℕ). (any_of y.0, y.1)))
      (all_again (predicate_at (d - 1)) ps x.a x.b behind x.opens (each_again ps (d - 1) (length x.b) h.0 x.b x.c behind h.1 (omega arith) (omega arith) x.inside x.closes))
  again (not_of p) d ts text behind h deep lies e =
      let x = parts_of (codes "not") h.0 text behind (subst (λ (us : List Token). Lies us text behind) h.2 lies) in
      worded d (codes "not") text x.a (omega arith) x.begins
      ∙ negated_again (predicate_at (d - 1)) p x.a x.b x.c behind x.opens (again p (d - 1) h.0 x.b x.c h.1 (omega arith) x.inside (mark_not (byte "=") (byte ")") x.c behind refl refl x.closes)) x.closes
  again (constant b) d ts text behind h deep lies e =
      alone_again d (constant_word b) text behind (omega arith) (constant_no_operator b) (subst (λ (us : List Token). Lies us text behind) h lies) e
      ∙ ap (λ (p : Predicate). Some (p, behind)) (bare_constant b)

  each_again : (ps : Predicates) (d n : ℕ) (ts : List Token) (text mid behind : List ℕ) → SpellsEach ps ts → levels_of_each ps ≤ d → length text ≤ n → Lies ts text mid → Begins (mark (byte ")")) mid behind
      → operands_at (predicate_at d) n text ≡ Some (ps, behind)
  each_again no_more d n ts text mid behind h deep enough lies close =
      let same : text ≡ mid = subst (λ (us : List Token). Lies us text mid) h lies in
      none_again (predicate_at d) n text behind enough (subst (λ (t : List ℕ). Begins (mark (byte ")")) t behind) (sym same) close)
  each_again (also p ps) d n ts text mid behind (front, first, inl (none, is)) deep enough lies close =
      let l : Lies front text mid = subst (λ (us : List Token). Lies us text mid) is lies in
      last_again (predicate_at d) n p text mid behind enough (lies_longer front text mid l) (no_parenthesis p front text mid first l)
      (again p d front text mid first (omega arith) l (mark_not (byte "=") (byte ")") mid behind refl refl close)) close
      ∙ ap (λ (qs : Predicates). Some (also p qs, behind)) (sym none)
  each_again (also p ps) d n ts text mid behind (front, first, inr (rest, each, is)) deep enough lies close =
      let s = Lies-split front (mark (byte ",") ∷ rest) text mid (subst (λ (us : List Token). Lies us text mid) is lies) in
      let comma : Begins (mark (byte ",")) s.0 s.2.0 = s.2.1 in
      let longer = lies_longer front text s.0 s.1 in
      let shorter = mark_longer (byte ",") s.0 s.2.0 comma in
      more_again (predicate_at d) n p ps text s.0 s.2.0 behind (omega arith) (no_parenthesis p front text s.0 first s.1)
      (again p d front text s.0 first (omega arith) s.1 (mark_not (byte "=") (byte ",") s.0 s.2.0 refl refl comma)) comma
      (each_again ps d (n - 1) rest s.2.0 mid behind each (omega arith) (omega arith) s.2.2 close)
