-- What is answered is what the text says.
use Rattle.std.proofs.Common.{◌≡◌, ℕ, ◌-◌, ◌≤◌, Bool, true, false, cond, eqb, List, [], ◌∷◌, ◌++◌, length, Some, None, take, drop, inl, inr, refl, sym, ap, ap₂, ◌∙◌, subst, arith, length-append}
use Rattle.std.specs.Prelude.{Option, ◌↔◌, ◌&&◌, IsTrue, codes, option_map, option_and_then}
use Rattle.std.specs.List.{AllByRecursion, list_all}
use Rattle.std.specs.Str.{byte, bytes_eq}
use Rattle.std.proofs.lemmas.Bool.Decides.{Decides-eqb}
use Rattle.std.proofs.lemmas.List.{take-append-drop, take_at}
use Rattle.std.proofs.lemmas.Option.{cond_some}
use Rattle.std.proofs.lemmas.Slice.Eq.{bytes_eq-Decides}
use Rattle.guppy_target.specs.Cfg.{Predicate, holds, levels}
use Rattle.guppy_target.specs.Grammar.{AreSpaces, Spells, Reads, IsTriple, is_of_triple, max_levels}
use Rattle.guppy_target.specs.Reading.{after_spaces, behind_cfg, before_close, inner_of, if_last, predicate_of, predicate_at}
use Rattle.guppy_target.specs.Platform.{PlatformData}
use Rattle.guppy_target.specs.Answer.{Says, answer_from, answer_of}
use Rattle.guppy_target.proofs.Fronts.{only_spaces, mark_nothing}
use Rattle.guppy_target.proofs.Words.{drop_at}
use Rattle.guppy_target.proofs.Options.{bind_some, map_some, chosen}
use Rattle.guppy_target.proofs.Soundness.{predicate_takes}
use Rattle.guppy_target.proofs.Completeness.{again}

inner_takes : (text inner : List ℕ) → inner_of text ≡ Some inner → text ≡ codes "cfg(" ++ (inner ++ codes ")")
unfolding inner_of
inner_takes text inner e =
    let b = bind_some before_close (behind_cfg text) inner e in
    let rest : List ℕ = b.0 in
    let p = cond_some (bytes_eq (take 4 text) (codes "cfg(")) (drop 4 text) rest b.1 in
    let q = cond_some (bytes_eq (drop (length rest - 1) rest) (codes ")")) (take (length rest - 1) rest) inner b.2 in
    let first : take 4 text ≡ codes "cfg(" = (bytes_eq-Decides (take 4 text) (codes "cfg(")).0 p.0 in
    let last : drop (length rest - 1) rest ≡ codes ")" = (bytes_eq-Decides (drop (length rest - 1) rest) (codes ")")).0 q.0 in
    let ends : rest ≡ inner ++ codes ")" = sym (take-append-drop (length rest - 1) rest) ∙ ap₂ (λ (a c : List ℕ). a ++ c) q.1 last in
    sym (take-append-drop 4 text) ∙ ap₂ (λ (a c : List ℕ). a ++ c) first (p.1 ∙ ends)

close_again : (inner : List ℕ) → before_close (inner ++ codes ")") ≡ Some inner
close_again inner =
    let l : List ℕ = inner ++ codes ")" in
    let whole = length-append inner (codes ")") in
    let one : length (codes ")") ≡ 1 = refl in
    let n : length l - 1 ≡ length inner = omega arith in
    ap (λ (k : ℕ). cond (bytes_eq (drop k l) (codes ")")) (Some (take k l)) None) n
    ∙ ap₂ (λ (a b : List ℕ). cond (bytes_eq a (codes ")")) (Some b) None) (drop_at inner (codes ")")) (take_at inner (codes ")") (length inner) refl)

inner_again : (text inner : List ℕ) → text ≡ codes "cfg(" ++ (inner ++ codes ")") → inner_of text ≡ Some inner
unfolding inner_of
inner_again text inner is = ap (λ (t : List ℕ). option_and_then before_close (behind_cfg t)) is ∙ close_again inner

last_some : (q p : Predicate) (l : List ℕ) → if_last q l ≡ Some p → (l ≡ []) × (q ≡ p)
last_some q p [] e = (refl, cc)
last_some q p (c ∷ cs) e = absurd (cc)

-- where nothing is behind the spaces, they are all
pub are_spaces : (l : List ℕ) → after_spaces l ≡ [] → AreSpaces l
are_spaces [] e = tt
are_spaces (c ∷ cs) e = elim (chosen (eqb c (byte " ")) (after_spaces cs) (c ∷ cs) [] e) [
  | inl h ↦ ((Decides-eqb c (byte " ")).0 h.0, are_spaces cs h.1)
  | inr h ↦ absurd (let no_list : (c ∷ cs) ≡ [] = h.1 in cc)
]

reads_takes : (text inner : List ℕ) (p : Predicate) → inner_of text ≡ Some inner → predicate_of inner ≡ Some p → Reads text p
unfolding predicate_of
reads_takes text inner p i e =
    let b = bind_some (λ (x : Predicate × List ℕ). if_last x.0 (after_spaces x.1)) (predicate_at max_levels inner) p e in
    let took = predicate_takes max_levels inner b.0 b.1 in
    let l = last_some b.0.0 p (after_spaces b.0.1) b.2 in
    record {
      inner = inner;
      text_is = inner_takes text inner i;
      tokens = took.tokens;
      spells = subst (λ (q : Predicate). Spells q took.tokens) l.1 took.spells;
      spaces = b.0.1;
      are_spaces = are_spaces b.0.1 l.0;
      lies = took.lies;
      nests = subst (λ (q : Predicate). levels q ≤ max_levels) l.1 took.nests;
    }

predicate_again : (text : List ℕ) (p : Predicate) (r : Reads text p) → predicate_of r.inner ≡ Some p
unfolding predicate_of
predicate_again text p r =
    ap (option_and_then (λ (x : Predicate × List ℕ). if_last x.0 (after_spaces x.1)))
    (again p max_levels r.tokens r.inner r.spaces r.spells r.nests r.lies (mark_nothing (byte "=") r.spaces r.are_spaces))
    ∙ ap (if_last p) (only_spaces r.spaces r.are_spaces)

-- A text reads as one predicate.
pub reads_one : (text : List ℕ) (p q : Predicate) → Reads text p → Reads text q → p ≡ q
reads_one text p q r s =
    let a = inner_again text r.inner r.text_is in
    let b = inner_again text s.inner s.text_is in
    let same : r.inner ≡ s.inner = cc in
    let x = predicate_again text p r in
    let y = predicate_again text q s in
    let z : predicate_of r.inner ≡ Some q = ap predicate_of same ∙ y in
    cc

all_true : (test : ℕ → Bool) (xs : List ℕ) → AllByRecursion (λ c. IsTrue (test c)) xs → list_all test xs ≡ true
all_true test [] h = refl
all_true test (x ∷ xs) h = ap₂ (λ (a b : Bool). a && b) h.0 (all_true test xs h.1)

both_true : (a b : Bool) → (a && b) ≡ true → (a ≡ true) × (b ≡ true)
both_true true b e = (refl, e)
both_true false b e = absurd (cc)

true_all : (test : ℕ → Bool) (xs : List ℕ) → list_all test xs ≡ true → AllByRecursion (λ c. IsTrue (test c)) xs
true_all test [] e = tt
true_all test (x ∷ xs) e = let b = both_true (test x) (list_all test xs) e in (b.0, true_all test xs b.1)

-- a triple is no `cfg(..)`
no_inner : (text : List ℕ) → IsTriple text → (o : Option (List ℕ)) → inner_of text ≡ o → o ≡ None
no_inner text triple None e = refl
no_inner text triple (Some inner) e =
    let whole : IsTriple (codes "cfg(" ++ (inner ++ codes ")")) = subst (λ (t : List ℕ). IsTriple t) (inner_takes text inner e) triple in
    let parenthesis : false ≡ true = whole.1.1.1.0 in
    absurd (cc)

module _ (text : List ℕ) (platform : PlatformData) (b : Bool) where
  says : (o : Option (List ℕ)) → inner_of text ≡ o → answer_from text platform o ≡ Some b → Says text platform b
  says (Some inner) i e =
      let m = map_some (holds platform.settings) (predicate_of inner) b e in
      inl (m.0, reads_takes text inner m.0 i m.1, sym m.2)
  says None i e =
      let c = cond_some (list_all is_of_triple text) (bytes_eq text platform.triple) b e in
      inr (true_all is_of_triple text c.0, sym c.1)

  said : Says text platform b → answer_of text platform ≡ Some b
  unfolding answer_of
  said (inl (p, r, is)) =
      ap (answer_from text platform) (inner_again text r.inner r.text_is)
      ∙ ap (option_map (holds platform.settings)) (predicate_again text p r) ∙ ap Some (sym is)
  said (inr (triple, is)) =
      ap (answer_from text platform) (no_inner text triple (inner_of text) refl)
      ∙ ap (λ (t : Bool). cond t (Some (bytes_eq text platform.triple)) None) (all_true is_of_triple text triple) ∙ ap Some (sym is)

  -- the answer is what the text says, and none where it says nothing
  pub answered : (answer_of text platform ≡ Some b) ↔ Says text platform b
  unfolding answer_of
  answered = (says (inner_of text) refl, said)
