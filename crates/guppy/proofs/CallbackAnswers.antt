-- What a callback has answered about packages, as far as it was asked.
use Rattle.std.proofs.Common.{◌≡◌, ◌∙◌, sym, ap, subst, refl, ℕ, zero, suc, ◌<◌, arith, Bool, true, false, List, [], ◌∷◌, ◌++◌, length, map, inl, inr, replicate, slice_set, append_assoc}
use Rattle.std.specs.List.{Contains}
use Rattle.std.proofs.lemmas.Fn.{FoldsTo-push}
use Rattle.std.proofs.lemmas.List.{map_push, append-nil, get_or-set_same, get_or-set_other}
use Rattle.std.proofs.lemmas.List.Elements.{Contains-push, Contains-push_cases, Contains-append_left}
use Rattle.std.proofs.lemmas.Bool.{cases_eq}
use Rattle.guppy_search.specs.IxSet.{IsIn}
use Rattle.guppy.specs.declared.metadata.PackageMetadata.{PackageMetadata}
use Rattle.guppy_graph.specs.Graph.{GraphData}
use Rattle.guppy.specs.Views.{PackageData, package_in, package_data}
use Rattle.guppy.specs.Asked.{asked_about, Answers, IsAskable, AreAnswered}

-- the callback was asked about the first of the positions, and the others are still to come
pub record IsAskedSoFar {F A : Type 0} (step : F → PackageMetadata → A → F → Type 0) (graph : GraphData) (positions : List ℕ) (callback : F) (to_come : List PackageData) (answers : List (ℕ × A)) (now : F) : Type 0 where
  pub left : List ℕ
  pub about : asked_about answers ++ left ≡ positions
  pub others : to_come ≡ map (package_in graph) left
  pub answered : Answers step graph callback answers now

-- the first of some positions is that of the package that comes first
record ComesFirst (graph : GraphData) (seen : PackageData) (rest : List PackageData) (left : List ℕ) : Type 0 where
  later : List ℕ
  left_is : left ≡ seen.position ∷ later
  seen_is : seen ≡ package_in graph seen.position
  rest_is : rest ≡ map (package_in graph) later

first_to_come : (graph : GraphData) (seen : PackageData) (rest : List PackageData) (left : List ℕ) → seen ∷ rest ≡ map (package_in graph) left → ComesFirst graph seen rest left
first_to_come graph seen rest [] e = absurd (cc)
first_to_come graph seen rest (p ∷ ps) e =
    let seen_is : seen ≡ package_in graph p = cc in
    let at : seen.position ≡ p = ap (λ s. s.position) seen_is in
    record {
      later = ps;
      left_is = ap (λ q. q ∷ ps) (sym at);
      seen_is = seen_is ∙ ap (package_in graph) (sym at);
      rest_is = cc;
    }

no_position : (graph : GraphData) (left : List ℕ) → [] ≡ map (package_in graph) left → left ≡ []
no_position graph [] e = refl
no_position graph (p ∷ ps) e = absurd (cc)

module _ {F A : Type 0} (step : F → PackageMetadata → A → F → Type 0) (graph : GraphData) (positions : List ℕ) (callback : F) where
  pub asked_none : (to_come : List PackageData) → to_come ≡ map (package_in graph) positions → IsAskedSoFar step graph positions callback to_come [] callback
  asked_none to_come e = record { left = positions; about = refl; others = e; answered = refl }

  module _ (to_come : List PackageData) (answers : List (ℕ × A)) (now : F) (so_far : IsAskedSoFar step graph positions callback to_come answers now) where
    pub asked_all : to_come ≡ [] → asked_about answers ≡ positions
    asked_all none =
        let over = no_position graph so_far.left (sym none ∙ so_far.others) in
        sym (append-nil (asked_about answers)) ∙ (ap (λ l. asked_about answers ++ l) (sym over) ∙ so_far.about)

    module _ (m : PackageMetadata) (rest : List PackageData) (next : to_come ≡ package_data m ∷ rest) where
      comes : ComesFirst graph (package_data m) rest so_far.left
      comes = first_to_come graph (package_data m) rest so_far.left (sym next ∙ so_far.others)

      -- the package is one of the graph
      pub of_the_graph : m.graph.now ≡ graph
      of_the_graph = ap (λ s. s.graph) comes.seen_is

      -- so there is room for its position
      pub fits : (set : List Bool) → length set ≡ length graph.packages → (p : ℕ) → p ≡ m.position → p < length set
      fits set count p at = let within = m.in_graph in let same = ap (λ d. length d.packages) of_the_graph in omega arith

      about_next : asked_about answers ++ m.position ∷ comes.later ≡ positions
      about_next = ap (λ l. asked_about answers ++ l) (sym comes.left_is) ∙ so_far.about

      pub may_ask : (pre : F → PackageMetadata → Type 0) → IsAskable pre step graph positions callback → pre now m
      may_ask pre askable = askable.at answers now m.position comes.later m about_next so_far.answered comes.seen_is

      pub asked_more : (answer : A) (after : F) → step now m answer after → IsAskedSoFar step graph positions callback rest (answers ++ (m.position, answer) ∷ []) after
      asked_more answer after call =
          let entry : ℕ × A = (m.position, answer) in
          record {
            left = comes.later;
            about = ap (λ l. l ++ comes.later) (map_push (λ e. e.0) answers entry) ∙ (append_assoc (asked_about answers) (m.position ∷ []) comes.later ∙ about_next);
            others = comes.rest_is;
            answered = FoldsTo-push _ callback answers now entry after so_far.answered (m, call, comes.seen_is);
          }

not_in : (n p : ℕ) → IsIn (replicate n false) p → ⊥
not_in zero p h = absurd (cc)
not_in (suc n) zero h = absurd (cc)
not_in (suc n) (suc p) h = not_in n p h

-- nothing was asked, and no position is in the set
pub answered_none : {A : Type 0} (answer : A) (n : ℕ) → AreAnswered [] answer (replicate n false)
answered_none answer n p = (λ h. absurd (not_in n p h), λ h. absurd (let none : h.0 < 0 = h.1 in omega arith))

module _ {A : Type 0} (answers : List (ℕ × A)) (answer : A) (set : List Bool) (are : AreAnswered answers answer set) (p : ℕ) where
  -- a position that got the answer is put in
  pub answered_more : p < length set → AreAnswered (answers ++ (p, answer) ∷ []) answer (slice_set set p true)
  answered_more within q = (
    λ h. elim (cases_eq q p) [
      | inl e ↦ subst (λ k. Contains (answers ++ (p, answer) ∷ []) (k, answer)) (sym e) (Contains-push answers (p, answer))
      | inr ne ↦ Contains-append_left answers ((p, answer) ∷ []) (q, answer) ((are q).0 (sym (get_or-set_other set p q true false ne) ∙ h))
    ],
    λ h. elim (Contains-push_cases answers (p, answer) (q, answer) h) [
      | inl there ↦ elim (cases_eq q p) [
        | inl e ↦ subst (IsIn (slice_set set p true)) (sym e) (get_or-set_same set p true false within)
        | inr ne ↦ get_or-set_other set p q true false ne ∙ (are q).1 there
      ]
      | inr e ↦ subst (IsIn (slice_set set p true)) (ap (λ entry. entry.0) e) (get_or-set_same set p true false within)
    ],
  )

  -- one that got another is not
  pub answered_otherwise : (other : A) → (other ≡ answer → ⊥) → AreAnswered (answers ++ (p, other) ∷ []) answer set
  answered_otherwise other apart q = (
    λ h. Contains-append_left answers ((p, other) ∷ []) (q, answer) ((are q).0 h),
    λ h. elim (Contains-push_cases answers (p, other) (q, answer) h) [
      | inl there ↦ (are q).1 there
      | inr e ↦ absurd (apart (ap (λ entry. entry.1) e))
    ],
  )
