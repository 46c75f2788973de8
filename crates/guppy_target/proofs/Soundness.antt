-- What is read stands there: the tokens of a predicate lie where it was read.
use Rattle.std.proofs.Common.{◌≡◌, ℕ, zero, suc, ◌+◌, ◌≤◌, Bool, true, false, cond, List, [], ◌∷◌, ◌++◌, length, Some, None, inl, inr, refl, sym, ap, subst, arith, length-append}
use Rattle.std.specs.Prelude.{Option, Decides, codes, option_map, option_and_then}
use Rattle.std.specs.Str.{byte, bytes_eq}
use Rattle.std.proofs.lemmas.Slice.Eq.{bytes_eq-Decides}
use Rattle.guppy_target.specs.Cfg.{Setting, name, pair, Predicate, Predicates, is_set, all_of, any_of, not_of, constant, no_more, also, levels, levels_of_each}
use Rattle.guppy_target.specs.Grammar.{Token, word, quoted, mark, spelling, IsMark, IsOperator, Begins, Lies, applied, Spells, SpellsEach}
use Rattle.guppy_target.specs.Reading.{mark_at, word_at, quoted_at, bare, setting_from, setting_at, closed, negated_at, operands_on, operands_step, operands_at, all_operands_at, predicate_from, predicate_at, truth_of}
use Rattle.guppy_target.proofs.Fronts.{mark_takes}
use Rattle.guppy_target.proofs.Words.{word_takes, quoted_takes}
use Rattle.guppy_target.proofs.Options.{bind_some, map_some, chosen}
use Rattle.guppy_target.proofs.Operands.{told}

pub begins_mark : (m : ℕ) (text behind : List ℕ) → IsMark m → mark_at m text ≡ Some behind → Begins (mark m) text behind
begins_mark m text behind is e =
    let s = mark_takes m text behind e in
    record { spaces = s.0; are_spaces = s.1; text_is = s.2; is_token = is }

pub Lies-append : (ts us : List Token) (text mid behind : List ℕ) → Lies ts text mid → Lies us mid behind → Lies (ts ++ us) text behind
Lies-append [] us text mid behind a b = subst (λ (l : List ℕ). Lies us l behind) (sym a) b
Lies-append (t ∷ ts) us text mid behind a b = (a.0, a.1, Lies-append ts us a.0 mid behind a.2 b)

begins_longer : (t : Token) (text behind : List ℕ) → Begins t text behind → length behind ≤ length text
begins_longer t text behind h =
    let first = length-append (spelling t) behind in
    let whole = length-append h.spaces (spelling t ++ behind) in
    let all : length text ≡ length (h.spaces ++ (spelling t ++ behind)) = ap length h.text_is in
    omega arith

pub lies_longer : (ts : List Token) (text behind : List ℕ) → Lies ts text behind → length behind ≤ length text
lies_longer [] text behind h = let same : length text ≡ length behind = ap length h in omega arith
lies_longer (t ∷ ts) text behind h =
    let first = begins_longer t text h.0 h.1 in
    let rest = lies_longer ts h.0 behind h.2 in
    omega arith

-- what was read: a predicate of so many levels or fewer, whose tokens lie at the front
pub record Took (d : ℕ) (text : List ℕ) (x : Predicate × List ℕ) : Type 0 where
  pub tokens : List Token
  pub spells : Spells x.0 tokens
  pub lies : Lies tokens text x.1
  pub nests : levels x.0 ≤ d

-- operands, and the parenthesis behind them
pub record TookEach (d : ℕ) (text : List ℕ) (x : Predicates × List ℕ) : Type 0 where
  pub tokens : List Token
  pub behind : List ℕ
  pub spells : SpellsEach x.0 tokens
  pub lies : Lies tokens text behind
  pub closes : Begins (mark (byte ")")) behind x.1
  pub nests : levels_of_each x.0 ≤ d

lies_applied : (operator : List ℕ) (inner : List Token) (text a b c behind : List ℕ) → Begins (word operator) text a → Begins (mark (byte "(")) a b → Lies inner b c → Begins (mark (byte ")")) c behind
    → Lies (applied operator inner) text behind
lies_applied operator inner text a b c behind w o i e = (a, w, (b, o, Lies-append inner (mark (byte ")") ∷ []) b c behind i (behind, e, refl)))

module _ (read : List ℕ → Option (Predicate × List ℕ)) (d : ℕ) (takes : (text : List ℕ) (x : Predicate × List ℕ) → read text ≡ Some x → Took d text x) where
  on_takes : (more : List ℕ → Option (Predicates × List ℕ)) → ((text : List ℕ) (x : Predicates × List ℕ) → more text ≡ Some x → TookEach d text x)
      → (text : List ℕ) (p : Predicate × List ℕ) → Took d text p → (o : Option (List ℕ)) → mark_at (byte ",") p.1 ≡ o
      → (x : Predicates × List ℕ) → operands_on more p.0 p.1 o ≡ Some x → TookEach d text x
  on_takes more each text p took (Some next) c x e =
      let m = map_some (λ (y : Predicates × List ℕ). (also p.0 y.0, y.1)) (more next) x e in
      let rest = each next m.0 m.1 in
      let comma = begins_mark (byte ",") p.1 next (inr (inr (inl refl))) c in
      subst (λ (y : Predicates × List ℕ). TookEach d text y) m.2 (record {
        tokens = took.tokens ++ (mark (byte ",") ∷ rest.tokens);
        behind = rest.behind;
        spells = (took.tokens, took.spells, inr (rest.tokens, rest.spells, refl));
        lies = Lies-append took.tokens (mark (byte ",") ∷ rest.tokens) text p.1 rest.behind took.lies (next, comma, rest.lies);
        closes = rest.closes;
        nests = (let a = took.nests in let b = rest.nests in omega arith);
      })
  on_takes more each text p took None c x e =
      let m = map_some (λ (l : List ℕ). (also p.0 no_more, l)) (mark_at (byte ")") p.1) x e in
      subst (λ (y : Predicates × List ℕ). TookEach d text y) m.2 (record {
        tokens = took.tokens;
        behind = p.1;
        spells = (took.tokens, took.spells, inl (refl, refl));
        lies = took.lies;
        closes = begins_mark (byte ")") p.1 m.0 (inr (inl refl)) m.1;
        nests = (let a = took.nests in omega arith);
      })

  step_takes : (more : List ℕ → Option (Predicates × List ℕ)) → ((text : List ℕ) (x : Predicates × List ℕ) → more text ≡ Some x → TookEach d text x)
      → (text : List ℕ) (o : Option (List ℕ)) → mark_at (byte ")") text ≡ o
      → (x : Predicates × List ℕ) → operands_step read more text o ≡ Some x → TookEach d text x
  step_takes more each text (Some rest) c x e =
      let is : (no_more, rest) ≡ x = cc in
      subst (λ (y : Predicates × List ℕ). TookEach d text y) is (record {
        tokens = [];
        behind = text;
        spells = refl;
        lies = refl;
        closes = begins_mark (byte ")") text rest (inr (inl refl)) c;
        nests = omega arith;
      })
  step_takes more each text None c x e =
      let b = bind_some (λ (y : Predicate × List ℕ). operands_on more y.0 y.1 (mark_at (byte ",") y.1)) (read text) x e in
      on_takes more each text b.0 (takes text b.0 b.1) (mark_at (byte ",") b.0.1) refl x b.2

  operands_takes : (n : ℕ) (text : List ℕ) (x : Predicates × List ℕ) → operands_at read n text ≡ Some x → TookEach d text x
  unfolding operands_at
  operands_takes zero text x e = absurd (cc)
  operands_takes (suc n) text x e = step_takes (operands_at read n) (operands_takes n) text (mark_at (byte ")") text) refl x e

  all_takes : (w text behind : List ℕ) → Begins (word w) text behind → (wrap : Predicates → Predicate) → ((ps : Predicates) → levels (wrap ps) ≡ levels_of_each ps + 1)
      → ((ps : Predicates) (inner : List Token) → SpellsEach ps inner → Spells (wrap ps) (applied w inner))
      → (x : Predicate × List ℕ) → option_map (λ (y : Predicates × List ℕ). (wrap y.0, y.1)) (all_operands_at read behind) ≡ Some x → Took (suc d) text x
  unfolding all_operands_at
  all_takes w text behind begins wrap deeper spelled x e =
      let m = map_some (λ (y : Predicates × List ℕ). (wrap y.0, y.1)) (all_operands_at read behind) x e in
      let b = bind_some (λ (t : List ℕ). operands_at read (length t) t) (mark_at (byte "(") behind) m.0 m.1 in
      let opens = begins_mark (byte "(") behind b.0 (inl refl) b.1 in
      let each = operands_takes (length b.0) b.0 m.0 b.2 in
      let one = deeper m.0.0 in
      subst (λ (y : Predicate × List ℕ). Took (suc d) text y) m.2 (record {
        tokens = applied w each.tokens;
        spells = spelled m.0.0 each.tokens each.spells;
        lies = lies_applied w each.tokens text behind b.0 each.behind m.0.1 begins opens each.lies each.closes;
        nests = (let a = each.nests in omega arith);
      })

  negated_takes : (w text behind : List ℕ) → Begins (word w) text behind → w ≡ codes "not" → (x : Predicate × List ℕ) → negated_at read behind ≡ Some x → Took (suc d) text x
  unfolding negated_at
  negated_takes w text behind begins is x e =
      let b = bind_some (λ (y : Predicate × List ℕ). closed y.0 y.1) (option_and_then read (mark_at (byte "(") behind)) x e in
      let r = bind_some read (mark_at (byte "(") behind) b.0 b.1 in
      let opens = begins_mark (byte "(") behind r.0 (inl refl) r.1 in
      let took = takes r.0 b.0 r.2 in
      let m = map_some (λ (l : List ℕ). (not_of b.0.0, l)) (mark_at (byte ")") b.0.1) x b.2 in
      let close = begins_mark (byte ")") b.0.1 m.0 (inr (inl refl)) m.1 in
      subst (λ (y : Predicate × List ℕ). Took (suc d) text y) m.2 (record {
        tokens = applied w took.tokens;
        spells = (took.tokens, took.spells, ap (λ (v : List ℕ). applied v took.tokens) is);
        lies = lies_applied w took.tokens text behind r.0 b.0.1 m.0 begins opens took.lies close;
        nests = (let a = took.nests in omega arith);
      })

bare_spells : (w : List ℕ) → (IsOperator w → ⊥) → (a b : Bool) → Decides a (w ≡ codes "true") → Decides b (w ≡ codes "false")
    → Spells (cond a (constant true) (cond b (constant false) (is_set (name w)))) (word w ∷ [])
bare_spells w op true b t f = ap (λ (v : List ℕ). word v ∷ []) (t.0 refl)
bare_spells w op false true t f = ap (λ (v : List ℕ). word v ∷ []) (f.0 refl)
bare_spells w op false false t f =
    (op, (λ e. (let x : false ≡ true = t.1 e in absurd (cc))), (λ e. (let x : false ≡ true = f.1 e in absurd (cc))), refl)

bare_levels : (w : List ℕ) (a b : Bool) → levels (cond a (constant true) (cond b (constant false) (is_set (name w)))) ≡ 1
bare_levels w true b = refl
bare_levels w false true = refl
bare_levels w false false = refl

from_takes : (d : ℕ) (w text behind : List ℕ) → Begins (word w) text behind → (IsOperator w → ⊥) → (o : Option (List ℕ)) → mark_at (byte "=") behind ≡ o
    → (x : Predicate × List ℕ) → setting_from w behind o ≡ Some x → Took (suc d) text x
from_takes d w text behind begins op None c x e =
    let is : (bare w, behind) ≡ x = cc in
    let one = bare_levels w (bytes_eq w (codes "true")) (bytes_eq w (codes "false")) in
    subst (λ (y : Predicate × List ℕ). Took (suc d) text y) is (record {
      tokens = word w ∷ [];
      spells = bare_spells w op (bytes_eq w (codes "true")) (bytes_eq w (codes "false")) (bytes_eq-Decides w (codes "true")) (bytes_eq-Decides w (codes "false"));
      lies = (behind, begins, refl);
      nests = omega arith;
    })
from_takes d w text behind begins op (Some next) c x e =
    let m = map_some (λ (y : List ℕ × List ℕ). (is_set (pair w y.0), y.1)) (quoted_at next) x e in
    let equals = begins_mark (byte "=") behind next (inr (inr (inr refl))) c in
    subst (λ (y : Predicate × List ℕ). Took (suc d) text y) m.2 (record {
      tokens = word w ∷ mark (byte "=") ∷ quoted m.0.0 ∷ [];
      spells = (op, refl);
      lies = (behind, begins, (next, equals, (m.0.1, quoted_takes next m.0 m.1, refl)));
      nests = omega arith;
    })

setting_takes : (d : ℕ) (w text behind : List ℕ) → Begins (word w) text behind → (IsOperator w → ⊥) → (x : Predicate × List ℕ) → setting_at w behind ≡ Some x → Took (suc d) text x
unfolding setting_at
setting_takes d w text behind begins op x e = from_takes d w text behind begins op (mark_at (byte "=") behind) refl x e

no_operator : (w : List ℕ) → bytes_eq w (codes "not") ≡ false → bytes_eq w (codes "all") ≡ false → bytes_eq w (codes "any") ≡ false → IsOperator w → ⊥
no_operator w n a o (inl is) = let yes : bytes_eq w (codes "all") ≡ true = (bytes_eq-Decides w (codes "all")).1 is in absurd (cc)
no_operator w n a o (inr (inl is)) = let yes : bytes_eq w (codes "any") ≡ true = (bytes_eq-Decides w (codes "any")).1 is in absurd (cc)
no_operator w n a o (inr (inr is)) = let yes : bytes_eq w (codes "not") ≡ true = (bytes_eq-Decides w (codes "not")).1 is in absurd (cc)

spells_all : (w : List ℕ) → w ≡ codes "all" → (ps : Predicates) (inner : List Token) → SpellsEach ps inner → Spells (all_of ps) (applied w inner)
spells_all w is ps inner h = (inner, h, ap (λ (v : List ℕ). applied v inner) is)

spells_any : (w : List ℕ) → w ≡ codes "any" → (ps : Predicates) (inner : List Token) → SpellsEach ps inner → Spells (any_of ps) (applied w inner)
spells_any w is ps inner h = (inner, h, ap (λ (v : List ℕ). applied v inner) is)

word_means : (read : List ℕ → Option (Predicate × List ℕ)) (d : ℕ) → ((text : List ℕ) (x : Predicate × List ℕ) → read text ≡ Some x → Took d text x)
    → (w text behind : List ℕ) → Begins (word w) text behind → (x : Predicate × List ℕ) → predicate_from read w behind ≡ Some x → Took (suc d) text x
word_means read d takes w text behind begins x e =
    elim (chosen (bytes_eq w (codes "not")) _ _ (Some x) e) [
      | inl n ↦ negated_takes read d takes w text behind begins ((bytes_eq-Decides w (codes "not")).0 n.0) x n.1
      | inr n ↦ elim (chosen (bytes_eq w (codes "all")) _ _ (Some x) n.1) [
        | inl a ↦ all_takes read d takes w text behind begins all_of (λ ps. refl) (spells_all w ((bytes_eq-Decides w (codes "all")).0 a.0)) x a.1
        | inr a ↦ elim (chosen (bytes_eq w (codes "any")) _ _ (Some x) a.1) [
          | inl o ↦ all_takes read d takes w text behind begins any_of (λ ps. refl) (spells_any w ((bytes_eq-Decides w (codes "any")).0 o.0)) x o.1
          | inr o ↦ setting_takes d w text behind begins (no_operator w n.0 a.0 o.0) x o.1
        ]
      ]
    ]

pub predicate_takes : (d : ℕ) (text : List ℕ) (x : Predicate × List ℕ) → predicate_at d text ≡ Some x → Took d text x
unfolding predicate_at
predicate_takes zero text x e = absurd (cc)
predicate_takes (suc d) text x e =
    let b = bind_some (λ (y : List ℕ × List ℕ). predicate_from (predicate_at d) y.0 y.1) (word_at text) x e in
    word_means (predicate_at d) d (predicate_takes d) b.0.0 text b.0.1 (word_takes text b.0 b.1) x b.2

-- so no more is left than there was
pub no_longer : (settings : List Setting) (d : ℕ) (text : List ℕ) (b : Bool) (behind : List ℕ) → truth_of settings (predicate_at d text) ≡ Some (b, behind) → length behind ≤ length text
no_longer settings d text b behind e =
    let t = told settings (predicate_at d text) b behind e in
    let took = predicate_takes d text (t.0, behind) t.1 in
    lies_longer took.tokens text behind took.lies
