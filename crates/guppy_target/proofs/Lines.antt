-- What a line says is set.
use Rattle.std.proofs.Common.{◌≡◌, ℕ, zero, suc, ◌<◌, List, [], ◌∷◌, ◌++◌, length, get_or, take, arith, Some, None, inr, refl, sym, ap, ◌∙◌, subst}
use Rattle.std.specs.Prelude.{Option, option_and_then, IfSome, slice_get, is_some, true}
use Rattle.std.specs.List.{list_all}
use Rattle.std.specs.Str.{byte}
use Rattle.guppy_target.specs.Cfg.{Setting, name, pair}
use Rattle.guppy_target.specs.Grammar.{word, quoted, Begins}
use Rattle.guppy_target.specs.Reading.{after_spaces, mark_at, word_at, quoted_at, if_ended, line_from, line_at}
use Rattle.guppy_target.specs.Platform.{IsLine, AreLines, IsFirstFault}
use Rattle.guppy_target.proofs.Fronts.{only_spaces, mark_nothing}
use Rattle.guppy_target.proofs.Words.{word_takes, word_again, quoted_takes, quoted_again}
use Rattle.guppy_target.proofs.Options.{bind_some}
use Rattle.guppy_target.proofs.Soundness.{begins_mark}
use Rattle.guppy_target.proofs.Completeness.{mark_is}
use Rattle.guppy_target.proofs.Evaluation.{are_spaces}

ended_some : (r s : Setting) (l : List ℕ) → if_ended r l ≡ Some s → (l ≡ []) × (r ≡ s)
ended_some r s [] e = (refl, cc)
ended_some r s (c ∷ cs) e = absurd (cc)

from_takes : (line w rest : List ℕ) → Begins (word w) line rest → (o : Option (List ℕ)) → mark_at (byte "=") rest ≡ o → (s : Setting) → line_from w rest o ≡ Some s → IsLine line s
from_takes line w rest begins None c s e =
    let l = ended_some (name w) s (after_spaces rest) e in
    subst (λ (r : Setting). IsLine line r) l.1 (record { spaces = rest; are_spaces = are_spaces rest l.0; lies = (rest, begins, refl) })
from_takes line w rest begins (Some behind) c s e =
    let b = bind_some (λ (x : List ℕ × List ℕ). if_ended (pair w x.0) (after_spaces x.1)) (quoted_at behind) s e in
    let l = ended_some (pair w b.0.0) s (after_spaces b.0.1) b.2 in
    let equals = begins_mark (byte "=") rest behind (inr (inr (inr refl))) c in
    subst (λ (r : Setting). IsLine line r) l.1 (record {
      spaces = b.0.1;
      are_spaces = are_spaces b.0.1 l.0;
      lies = (rest, begins, (behind, equals, (b.0.1, quoted_takes behind b.0 b.1, refl)));
    })

pub line_takes : (line : List ℕ) (s : Setting) → line_at line ≡ Some s → IsLine line s
unfolding line_at
line_takes line s e =
    let b = bind_some (λ (x : List ℕ × List ℕ). line_from x.0 x.1 (mark_at (byte "=") x.1)) (word_at line) s e in
    from_takes line b.0.0 b.0.1 (word_takes line b.0 b.1) (mark_at (byte "=") b.0.1) refl s b.2

pub line_again : (line : List ℕ) (s : Setting) → IsLine line s → line_at line ≡ Some s
unfolding line_at
line_again line (name w) h =
    let begins : Begins (word w) line h.spaces = subst (λ (t : List ℕ). Begins (word w) line t) h.lies.2 h.lies.1 in
    ap (option_and_then (λ (x : List ℕ × List ℕ). line_from x.0 x.1 (mark_at (byte "=") x.1))) (word_again w line h.spaces begins)
    ∙ ap (line_from w h.spaces) (mark_nothing (byte "=") h.spaces h.are_spaces)
    ∙ ap (if_ended (name w)) (only_spaces h.spaces h.are_spaces)
line_again line (pair k v) h =
    let q : Begins (quoted v) h.lies.2.0 h.spaces = subst (λ (t : List ℕ). Begins (quoted v) h.lies.2.0 t) h.lies.2.2.2 h.lies.2.2.1 in
    ap (option_and_then (λ (x : List ℕ × List ℕ). line_from x.0 x.1 (mark_at (byte "=") x.1))) (word_again k line h.lies.0 h.lies.1)
    ∙ ap (line_from k h.lies.0) (mark_is (byte "=") h.lies.0 h.lies.2.0 refl h.lies.2.1)
    ∙ ap (option_and_then (λ (x : List ℕ × List ℕ). if_ended (pair k x.0) (after_spaces x.1))) (quoted_again v h.lies.2.0 h.spaces q)
    ∙ ap (if_ended (pair k v)) (only_spaces h.spaces h.are_spaces)

pub no_line : (line : List ℕ) → line_at line ≡ None → (s : Setting) → IsLine line s → ⊥
no_line line e s h = let there = line_again line s h in absurd (cc)

-- one more line
pub AreLines-more : (ls : List (List ℕ)) (ss : List Setting) (line : List ℕ) (s : Setting) → AreLines ls ss → IsLine line s → AreLines (ls ++ line ∷ []) (ss ++ s ∷ [])
AreLines-more [] [] line s h is = (is, tt)
AreLines-more [] (r ∷ ss) line s h is = absurd h
AreLines-more (l ∷ ls) [] line s h is = absurd h
AreLines-more (l ∷ ls) (r ∷ ss) line s h is = (h.0, AreLines-more ls ss line s h.1 is)

pub AreLines-length : (ls : List (List ℕ)) (ss : List Setting) → AreLines ls ss → length ss ≡ length ls
AreLines-length [] [] h = refl
AreLines-length [] (r ∷ ss) h = absurd h
AreLines-length (l ∷ ls) [] h = absurd h
AreLines-length (l ∷ ls) (r ∷ ss) h = ap suc (AreLines-length ls ss h.1)

at_place : (P : List ℕ → Type 0) (ls : List (List ℕ)) (k : ℕ) (line : List ℕ) → k < length ls → line ≡ get_or ls k line → P line → IfSome (slice_get ls k) P
at_place P [] k line lt is h = absurd (omega arith)
at_place P (l ∷ ls) zero line lt is h = subst P is h
at_place P (l ∷ ls) (suc k) line lt is h = at_place P ls k line (omega arith) is h

-- the line behind those so far says nothing
pub first_fault : (ls seen : List (List ℕ)) (ss : List Setting) (k n : ℕ) (line : List ℕ) → AreLines seen ss → seen ≡ take k ls → k < length ls → line ≡ get_or ls k line → line_at line ≡ None → n ≡ k
    → IsFirstFault ls n
first_fault ls seen ss k n line are front lt is none same =
    subst (λ (m : ℕ). IsFirstFault ls m) (sym same) (record {
      within = lt;
      before = (ss, subst (λ (l : List (List ℕ)). AreLines l ss) front are);
      fault = at_place (λ l. (s : Setting) → IsLine l s → ⊥) ls k line lt is (no_line line none);
    })

some_more : (l : List ℕ) (ls : List (List ℕ)) (o : Option Setting) → line_at l ≡ o → list_all (λ line. is_some (line_at line)) (l ∷ ls) ≡ true
    → ((s : Setting) × (line_at l ≡ Some s)) × (list_all (λ line. is_some (line_at line)) ls ≡ true)
some_more l ls None e h = absurd (cc)
some_more l ls (Some s) e h = ((s, e), cc)

-- where each line is read, each says what is set
pub settings_some : (ls : List (List ℕ)) → list_all (λ line. is_some (line_at line)) ls ≡ true → (ss : List Setting) × AreLines ls ss
settings_some [] h = ([], tt)
settings_some (l ∷ ls) h =
    let one = some_more l ls (line_at l) refl h in
    let rest = settings_some ls one.1 in
    (one.0.0 ∷ rest.0, (line_takes l one.0.0 one.0.1, rest.1))

-- and the other way round
pub some_settings : (ls : List (List ℕ)) (ss : List Setting) → AreLines ls ss → list_all (λ line. is_some (line_at line)) ls ≡ true
some_settings [] ss h = refl
some_settings (l ∷ ls) [] h = absurd h
some_settings (l ∷ ls) (s ∷ ss) h = rw (line_again l s h.0) (some_settings ls ss h.1)
