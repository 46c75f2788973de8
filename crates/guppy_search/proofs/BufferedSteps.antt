-- Each step of a search with a buffered filter.
use Rattle.std.proofs.Common.{◌≡◌, ◌⊎◌, ◌↔◌, ℕ, suc, ◌+◌, Bool, inl, inr, List, [], ◌∷◌, ◌++◌, length, sym, ap, subst, append_assoc, arith}
use Rattle.std.specs.Prelude.{Contains, Option, None, ◌==◌}
use Rattle.std.proofs.lemmas.List.{append-nil}
use Rattle.std.proofs.lemmas.List.Elements.{Contains-push, Contains-append_left, Contains-append_right, Contains-append_cases, Contains-push_cases, All-push}
use Rattle.guppy_search.specs.declared.ix.direction.DependencyDirection.{DependencyDirection}
use Rattle.guppy_search.specs.declared.graph_core.link.Link.{Link}
use Rattle.guppy_search.specs.Links.{near_end, links_at, IsLedTo}
use Rattle.guppy_search.specs.IxSet.{IsIn, member_count, positions_in}
use Rattle.guppy_search.specs.Resolve.{LeavesOne}
use Rattle.guppy_search.specs.Buffered.{Question, IsAsked, IsFound, IsTimely, AreLinkNumbers, IsOrderly, IsAskable, JudgesBuffered, Asks, EndsInError, Adds}
use Rattle.guppy_search.specs.Buffered.Question.{discover, filter}
use Rattle.guppy_search.specs.Buffering.{Buffering, Takes, Stops, MayAskOn}
use Rattle.guppy_search.proofs.Lists.{nothing_in, Contains-first, Contains-later, Contains-cons_cases, EachAfter-nil, EachAfter-push, FoldsTo-append}
use Rattle.guppy_search.proofs.Positions.{positions_from-have}
use Rattle.guppy_search.proofs.Numbers.{numbers_ascend}
use Rattle.guppy_search.proofs.Rows.{row_has}
use Rattle.guppy_search.proofs.SearchSteps.{Waits-pop, first_once, row_leaves, LeavesOne-both}
use Rattle.guppy_search.proofs.FollowedLinks.{Waits-adds, Waits-all}

module _ {E : Type 0} (d : DependencyDirection) (links : List (Link E)) (initials : List Bool) where
  -- nothing was asked: the initial positions are in the set and wait
  pub Buffering-begin : Buffering d links initials [] initials (positions_in initials) []
  Buffering-begin = record {
    orderly = record { once = EachAfter-nil _; timely = EachAfter-nil _; answered = λ k d h. absurd (omega arith) };
    included = λ p. (λ h. inl h, λ h. elim h [ inl i ↦ i | inr q ↦ absurd (nothing_in q.0 q.1) ]);
    discovered = λ p h. absurd (nothing_in (discover p, h.0) h.1);
    to_discover = λ p h. inr (positions_from-have 0 initials p p (omega arith) h);
    undiscovered = λ p h k. nothing_in (discover p, k.0) k.1;
    filtered = λ n h. absurd (nothing_in (filter n, h.0) h.1);
    to_filter = λ n h. absurd (nothing_in (discover (near_end d h.0), h.2.0) h.2.1);
    unfiltered = λ n h k. nothing_in n h;
    row = λ n h. absurd (nothing_in n h);
    ascending = λ q r h k. absurd (omega arith);
    waits = Waits-all initials;
  }

  module _ (trace : List (Question × List ℕ)) (s : List Bool) where
    -- nothing waits
    pub Buffering-end : Buffering d links initials trace s [] [] → JudgesBuffered d links initials trace s
    Buffering-end b =
        let all : (p : ℕ) → IsIn s p → IsAsked trace (discover p) = λ p h. elim (b.to_discover p h) [ inl k ↦ k | inr c ↦ absurd (nothing_in p c) ] in
        record {
          included = b.included;
          discovered = λ p. (b.discovered p, all p);
          filtered = λ n. (
            λ h. let l = b.filtered n h in (l.0, l.1, b.discovered (near_end d l.0) l.2),
            λ h. elim (b.to_filter n (h.0, h.1, all (near_end d h.0) h.2)) [ inl k ↦ k | inr c ↦ absurd (nothing_in n c) ],
          );
          orderly = b.orderly;
        }

  -- A question is answered by links.
  module _ (trace : List (Question × List ℕ)) (question : Question) (handed : List ℕ) where
    IsAsked-more : (q : Question) → IsAsked trace q → IsAsked (trace ++ (question, handed) ∷ []) q
    IsAsked-more q h = (h.0, Contains-append_left trace ((question, handed) ∷ []) (q, h.0) h.1)

    IsAsked-now : (q : Question) → question ≡ q → IsAsked (trace ++ (question, handed) ∷ []) q
    IsAsked-now q e = subst (IsAsked (trace ++ (question, handed) ∷ [])) e (handed, Contains-push trace (question, handed))

    IsAsked-cases : (q : Question) → IsAsked (trace ++ (question, handed) ∷ []) q → IsAsked trace q ⊎ (question ≡ q)
    IsAsked-cases q h = elim (Contains-push_cases trace (question, handed) (q, h.0) h.1) [ inl c ↦ inl (h.0, c) | inr e ↦ inr (ap (λ z. z.0) e) ]

    leaves_discovered-more : (n : ℕ) → LeavesOne d links (λ p. IsAsked trace (discover p)) n → LeavesOne d links (λ p. IsAsked (trace ++ (question, handed) ∷ []) (discover p)) n
    leaves_discovered-more n l = (l.0, l.1, IsAsked-more (discover (near_end d l.0)) l.2)

    IsOrderly-more : IsOrderly d links initials trace → ¬ IsAsked trace question → IsTimely d links initials trace question → AreLinkNumbers links handed → IsOrderly d links initials (trace ++ (question, handed) ∷ [])
    IsOrderly-more o new timely answer = record {
      once = EachAfter-push _ trace (question, handed) o.once new;
      timely = EachAfter-push _ trace (question, handed) o.timely timely;
      answered = All-push (λ (entry : Question × List ℕ). AreLinkNumbers links entry.1) trace (question, handed) o.answered answer;
    }

    -- the links are followed
    included-more : (s : List Bool) (added : List ℕ) (s' : List Bool) → Adds d links handed s added s' → ((p : ℕ) → IsIn s p ↔ IsFound d links initials trace p) → (p : ℕ) → IsIn s' p ↔ IsFound d links initials (trace ++ (question, handed) ∷ []) p
    included-more s added s' a included p = (
      λ h. elim ((a.after_has p).0 h) [
        | inl i ↦ elim ((included p).0 i) [ inl k ↦ inl k | inr q ↦ inr (q.0, Contains-append_left trace ((question, handed) ∷ []) q.0 q.1, q.2) ]
        | inr c ↦ inr ((question, handed), Contains-push trace (question, handed), a.led_to p c)
      ],
      λ h. elim h [
        | inl i ↦ (a.after_has p).1 (inl ((included p).1 (inl i)))
        | inr q ↦ elim (Contains-push_cases trace (question, handed) q.0 q.1) [
          | inl c ↦ (a.after_has p).1 (inl ((included p).1 (inr (q.0, c, q.2))))
          | inr e ↦ a.followed p (subst (λ (entry : Question × List ℕ). IsLedTo d links entry.1 p) (sym e) q.2)
        ]
      ],
    )

  module _ (trace : List (Question × List ℕ)) (s : List Bool) (handed added : List ℕ) (s' : List Bool) (answer : AreLinkNumbers links handed) (a : Adds d links handed s added s') (waiting : List ℕ) (balance : length (waiting ++ added) + member_count s ≡ length waiting + member_count s') where
    -- the next position that waits is discovered
    Buffering-discovered : (p : ℕ) → Buffering d links initials trace s (waiting ++ p ∷ []) [] → Buffering d links initials (trace ++ (discover p, handed) ∷ []) s' (waiting ++ added) (links_at d links p)
    Buffering-discovered p b =
        let q = discover p in
        let w = Waits-pop s waiting p b.waits in
        let is_p : (r : ℕ) → q ≡ discover r → p ≡ r = λ r e. cc in
        let not_link : (n : ℕ) → q ≡ filter n → ⊥ = λ n e. cc in
        record {
          orderly = IsOrderly-more trace q handed b.orderly (b.undiscovered p (Contains-push waiting p)) ((b.included p).0 w.1) answer;
          included = included-more trace q handed s added s' a b.included;
          discovered = λ r h. elim (IsAsked-cases trace q handed (discover r) h) [
            | inl k ↦ (a.after_has r).1 (inl (b.discovered r k))
            | inr e ↦ (a.after_has r).1 (inl (subst (IsIn s) (is_p r e) w.1))
          ];
          to_discover = λ r h. elim ((a.after_has r).0 h) [
            | inl i ↦ elim (b.to_discover r i) [
              | inl k ↦ inl (IsAsked-more trace q handed (discover r) k)
              | inr c ↦ elim (Contains-push_cases waiting p r c) [ inl k ↦ inr (Contains-append_left waiting added r k) | inr e ↦ inl (IsAsked-now trace q handed (discover r) (ap discover e)) ]
            ]
            | inr c ↦ inr (Contains-append_right waiting added r c)
          ];
          undiscovered = λ r h k. elim (Contains-append_cases waiting added r h) as (λ _. ⊥) [
            | inl c ↦ elim (IsAsked-cases trace q handed (discover r) k) as (λ _. ⊥) [
              | inl asked ↦ b.undiscovered r (Contains-append_left waiting (p ∷ []) r c) asked
              | inr e ↦ w.2 (subst (Contains waiting) (sym (is_p r e)) c)
            ]
            | inr c ↦ elim (IsAsked-cases trace q handed (discover r) k) as (λ _. ⊥) [
              | inl asked ↦ a.lacked r c (b.discovered r asked)
              | inr e ↦ a.lacked r c (subst (IsIn s) (is_p r e) w.1)
            ]
          ];
          filtered = λ n h. elim (IsAsked-cases trace q handed (filter n) h) [
            | inl k ↦ leaves_discovered-more trace q handed n (b.filtered n k)
            | inr e ↦ absurd (not_link n e)
          ];
          to_filter = λ n h. elim (IsAsked-cases trace q handed (discover (near_end d h.0)) h.2) [
            | inl k ↦ elim (b.to_filter n (h.0, h.1, k)) [ inl f ↦ inl (IsAsked-more trace q handed (filter n) f) | inr c ↦ absurd (nothing_in n c) ]
            | inr e ↦ inr (row_has d links p n h.0 h.1 (sym (is_p (near_end d h.0) e)))
          ];
          unfiltered = λ n h k. elim (IsAsked-cases trace q handed (filter n) k) as (λ _. ⊥) [
            | inl asked ↦
                let l = LeavesOne-both d links (λ r. IsAsked trace (discover r)) (λ r. r ≡ p) n (b.filtered n asked) (row_leaves d links p n h) in
                b.undiscovered p (Contains-push waiting p) (subst (λ r. IsAsked trace (discover r)) l.2.1 l.2.0)
            | inr e ↦ not_link n e
          ];
          row = λ n h. let l = row_leaves d links p n h in (l.0, l.1, IsAsked-now trace q handed (discover (near_end d l.0)) (ap discover (sym l.2)));
          ascending = numbers_ascend (λ l. near_end d l == p) 0 links;
          waits = Waits-adds d links handed s waiting added s' a balance w.0;
        }

    -- the next link is asked about
    pub Buffering-filtered : (n : ℕ) (left : List ℕ) → Buffering d links initials trace s waiting (n ∷ left) → Buffering d links initials (trace ++ (filter n, handed) ∷ []) s' (waiting ++ added) left
    Buffering-filtered n left b =
        let q = filter n in
        let is_n : (m : ℕ) → q ≡ filter m → n ≡ m = λ m e. cc in
        let not_position : (p : ℕ) → q ≡ discover p → ⊥ = λ p e. cc in
        let asked_before : (p : ℕ) → IsAsked (trace ++ (q, handed) ∷ []) (discover p) → IsAsked trace (discover p) = λ p h. elim (IsAsked-cases trace q handed (discover p) h) [ inl k ↦ k | inr e ↦ absurd (not_position p e) ] in
        record {
          orderly = IsOrderly-more trace q handed b.orderly (b.unfiltered n (Contains-first n left)) (b.row n (Contains-first n left)) answer;
          included = included-more trace q handed s added s' a b.included;
          discovered = λ p h. (a.after_has p).1 (inl (b.discovered p (asked_before p h)));
          to_discover = λ p h. elim ((a.after_has p).0 h) [
            | inl i ↦ elim (b.to_discover p i) [ inl k ↦ inl (IsAsked-more trace q handed (discover p) k) | inr c ↦ inr (Contains-append_left waiting added p c) ]
            | inr c ↦ inr (Contains-append_right waiting added p c)
          ];
          undiscovered = λ p h k. elim (Contains-append_cases waiting added p h) as (λ _. ⊥) [
            | inl c ↦ b.undiscovered p c (asked_before p k)
            | inr c ↦ a.lacked p c (b.discovered p (asked_before p k))
          ];
          filtered = λ m h. elim (IsAsked-cases trace q handed (filter m) h) [
            | inl k ↦ leaves_discovered-more trace q handed m (b.filtered m k)
            | inr e ↦ leaves_discovered-more trace q handed m (subst (LeavesOne d links (λ p. IsAsked trace (discover p))) (is_n m e) (b.row n (Contains-first n left)))
          ];
          to_filter = λ m h. elim (b.to_filter m (h.0, h.1, asked_before (near_end d h.0) h.2)) [
            | inl k ↦ inl (IsAsked-more trace q handed (filter m) k)
            | inr c ↦ elim (Contains-cons_cases n m left c) [ inl e ↦ inl (IsAsked-now trace q handed (filter m) (ap filter e)) | inr k ↦ inr k ]
          ];
          unfiltered = λ m h k. elim (IsAsked-cases trace q handed (filter m) k) as (λ _. ⊥) [
            | inl asked ↦ b.unfiltered m (Contains-later n m left h) asked
            | inr e ↦ first_once n left b.ascending (subst (Contains left) (sym (is_n m e)) h)
          ];
          row = λ m h. leaves_discovered-more trace q handed m (b.row m (Contains-later n m left h));
          ascending = λ r t h k. b.ascending (suc r) (suc t) (omega arith) (omega arith);
          waits = Waits-adds d links handed s waiting added s' a balance b.waits;
        }

  -- the position that is taken from those that wait is discovered
  pub Buffering-followed : (trace : List (Question × List ℕ)) (s : List Bool) (handed added : List ℕ) (s' : List Bool) → AreLinkNumbers links handed → Adds d links handed s added s' → (waiting waited waits : List ℕ) (p : ℕ) → waited ≡ waiting ++ p ∷ [] → waits ≡ waiting ++ added → length waits + member_count s ≡ length waiting + member_count s'
      → Buffering d links initials trace s waited [] → Buffering d links initials (trace ++ (discover p, handed) ∷ []) s' waits (links_at d links p)
  Buffering-followed trace s handed added s' answer a waiting waited waits p taken more balance b = rw more (Buffering-discovered trace s handed added s' answer a waiting (rw more at balance) p (rw taken at b))

  -- The next question is answered by an error.
  module _ {T : Type 0} (answers : T → Question → Option (List ℕ) → T → Type 0) (trace : List (Question × List ℕ)) (s : List Bool) (waiting : List ℕ) (first state last : T) (asks : Asks answers first trace state) where
    -- a search ends where the filter answers an error of a position
    pub Buffering-discover_error : (p : ℕ) → Buffering d links initials trace s (waiting ++ p ∷ []) [] → answers state (discover p) None last → EndsInError answers d links initials first last
    Buffering-discover_error p b error = record {
      trace = trace;
      question = discover p;
      state = state;
      asks = asks;
      error = error;
      orderly = b.orderly;
      new = b.undiscovered p (Contains-push waiting p);
      timely = (b.included p).0 (b.waits.in_set p (Contains-push waiting p));
    }

    -- or of a link
    pub Buffering-filter_error : (n : ℕ) (left : List ℕ) → Buffering d links initials trace s waiting (n ∷ left) → answers state (filter n) None last → EndsInError answers d links initials first last
    Buffering-filter_error n left b error = record {
      trace = trace;
      question = filter n;
      state = state;
      asks = asks;
      error = error;
      orderly = b.orderly;
      new = b.unfiltered n (Contains-first n left);
      timely = b.row n (Contains-first n left);
    }

-- who may be asked along each chain may be asked on from where the search is
pub MayAskOn-along : {E T : Type 0} (d : DependencyDirection) (links : List (Link E)) (initials : List Bool) (can_discover can_filter : T → ℕ → Type 0) (answers : T → Question → Option (List ℕ) → T → Type 0) (trace : List (Question × List ℕ)) (s : List Bool) (waiting left : List ℕ) (first state : T)
    → IsAskable can_discover can_filter answers d links initials first → Buffering d links initials trace s waiting left → Asks answers first trace state → MayAskOn can_filter answers d links s waiting left state
MayAskOn-along d links initials can_discover can_filter answers trace s waiting left first state askable buffering asks = record {
  at = λ asked now n s' waiting' left' takes due more.
      let after = takes.after initials trace buffering in
      askable.at_link (trace ++ asked) now n after.orderly
      (FoldsTo-append _ first trace state asked now asks more)
      (after.row n due) (after.unfiltered n due);
}

-- What the links asked about so far make of a search, where row are all that leave the position.
pub Takes-none : {E : Type 0} (d : DependencyDirection) (links : List (Link E)) (s : List Bool) (waiting row : List ℕ) → Takes d links [] s waiting row s waiting row
Takes-none d links s waiting row = record { after = λ initials trace h. rw append-nil h }

module _ {E : Type 0} (d : DependencyDirection) (links : List (Link E)) (asked : List (Question × List ℕ)) (s : List Bool) (waiting row : List ℕ) (s' : List Bool) where
  -- one more link was asked about, and what was handed back followed
  pub Takes-filtered : (handed added : List ℕ) (s'' : List Bool) (answer : AreLinkNumbers links handed) (a : Adds d links handed s' added s'') (waiting' : List ℕ) (balance : length (waiting' ++ added) + member_count s' ≡ length waiting' + member_count s'') (n : ℕ) (left : List ℕ)
      → Takes d links asked s waiting row s' waiting' (n ∷ left) → Takes d links (asked ++ (filter n, handed) ∷ []) s waiting row s'' (waiting' ++ added) left
  Takes-filtered handed added s'' answer a waiting' balance n left h = record {
    after = λ initials trace b. subst (λ all. Buffering d links initials all s'' (waiting' ++ added) left) (append_assoc trace asked ((filter n, handed) ∷ []))
        (Buffering-filtered d links initials (trace ++ asked) s' handed added s'' answer a waiting' balance n left (h.after initials trace b));
  }

  -- the search stops where the filter answers an error of a link
  pub Stops-filter : {T : Type 0} (answers : T → Question → Option (List ℕ) → T → Type 0) (old state last : T) (waiting' : List ℕ) (n : ℕ) (left : List ℕ)
      → Asks answers old asked state → Takes d links asked s waiting row s' waiting' (n ∷ left) → answers state (filter n) None last → Stops answers d links s waiting row old last
  Stops-filter answers old state last waiting' n left asks h error = record {
    after = λ initials trace first b k. Buffering-filter_error d links initials answers (trace ++ asked) s' waiting' first state last
        (FoldsTo-append _ first trace old asked state k asks) n left (h.after initials trace b) error;
  }
