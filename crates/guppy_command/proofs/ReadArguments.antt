-- Arguments that are read one after another.
use Rattle.std.proofs.Common.{◌≡◌, ◌∙◌, ⊎_elim, refl, sym, ap, subst, ℕ, List, [], ◌∷◌, ◌++◌, true, false, map, Result, Ok, Err, append_assoc}
use Rattle.std.proofs.lemmas.List.{append-nil}
use Rattle.guppy_command.specs.Asked.{◌>>=◌, Asked, Asks, IsMisread, IsUnfound, Wanted, wanted_of}
use Rattle.guppy_command.specs.Grammar.{Program, Argument, Misread, Reads, word, first_at, goes_on, all_before, ended, others, one, stuck}

-- one more in front of those that are read further on
pub all_before-one : (front : List Argument) (argument : Argument) (outcome : Result (List Argument) Misread) → all_before front (all_before (argument ∷ []) outcome) ≡ all_before (front ++ argument ∷ []) outcome
all_before-one front argument (Ok arguments) = ap Ok (sym (append_assoc front (argument ∷ []) arguments))
all_before-one front argument (Err misread) = refl

module _ (p : Program) (all rest : List (List ℕ)) (front : List Argument) (reads : (outcome : Result (List Argument) Misread) → Reads p rest outcome → Reads p all (all_before front outcome)) where
  -- no words are left
  pub reads_ended : rest ≡ [] → Reads p all (Ok front)
  reads_ended none = subst (λ (arguments : List Argument). Reads p all (Ok arguments)) (append-nil front) (reads (Ok []) (subst (λ (words : List (List ℕ)). Reads p words (Ok [])) (sym none) ended))

  module _ (text : List ℕ) (words : List (List ℕ)) (next : rest ≡ text ∷ words) where
    -- no option is left among them
    pub reads_others : goes_on p text ≡ false → Reads p all (Ok (front ++ map word rest))
    reads_others ends = reads (Ok (map word rest)) (subst (λ (left : List (List ℕ)). Reads p left (Ok (map word left))) (sym next) (others ends))

    -- the next one
    pub reads_one : (behind : List (List ℕ)) (argument : Argument) → goes_on p text ≡ true → first_at p text words ≡ Ok (argument, behind) → (outcome : Result (List Argument) Misread) → Reads p behind outcome → Reads p all (all_before (front ++ argument ∷ []) outcome)
    reads_one behind argument goes is outcome more = subst (λ (o : Result (List Argument) Misread). Reads p all o) (all_before-one front argument outcome) (reads (all_before (argument ∷ []) outcome) (subst (λ (left : List (List ℕ)). Reads p left (all_before (argument ∷ []) outcome)) (sym next) (one goes is more)))

    -- the next is none
    pub reads_stuck : (misread : Misread) → goes_on p text ≡ true → first_at p text words ≡ Err misread → Reads p all (Err misread)
    reads_stuck misread goes is = reads (Err misread) (subst (λ (left : List (List ℕ)). Reads p left (Err misread)) (sym next) (stuck goes is))

-- words read in one way
pub reads_alike : (p : Program) (words : List (List ℕ)) (a b : Result (List Argument) Misread) → Reads p words a → Reads p words b → a ≡ b
reads_alike p [] a b ended ended = refl
reads_alike p (text ∷ words) a b (others ends) (others ends') = refl
reads_alike p (text ∷ words) a b (others ends) (one goes is more) = cc (ends, goes)
reads_alike p (text ∷ words) a b (others ends) (stuck goes is) = cc (ends, goes)
reads_alike p (text ∷ words) a b (one goes is more) (others ends) = cc (ends, goes)
reads_alike p (text ∷ words) a b (one {behind = behind} {argument = argument} {outcome = outcome} goes is more) (one {behind = behind'} {argument = argument'} {outcome = outcome'} goes' is' more') =
    let first : Argument × List (List ℕ) = (argument, behind) in
    let first' : Argument × List (List ℕ) = (argument', behind') in
    let same : first ≡ first' = cc (is, is') in
    let same_argument : argument ≡ argument' = ap (λ pair. pair.0) same in
    let same_behind : behind ≡ behind' = ap (λ pair. pair.1) same in
    let rest : Reads p behind outcome' = subst (λ (words : List (List ℕ)). Reads p words outcome') (sym same_behind) more' in
    ap (λ first. all_before (first ∷ []) outcome) same_argument ∙ ap (all_before (argument' ∷ [])) (reads_alike p behind outcome outcome' more rest)
reads_alike p (text ∷ words) a b (one goes is more) (stuck goes' is') = cc (is, is')
reads_alike p (text ∷ words) a b (stuck goes is) (others ends) = cc (ends, goes)
reads_alike p (text ∷ words) a b (stuck goes is) (one goes' is' more) = cc (is, is')
reads_alike p (text ∷ words) a b (stuck goes is) (stuck goes' is') = cc (is, is')

-- where words ask something, a misread is one of a file
pub misread_in_file : (has : List ℕ → List ℕ → Type 0) (p : Program) (words : List (List ℕ)) (asked : Asked) (misread : Misread) → Asks has p words asked → IsMisread has p words misread → (wants : Wanted) × IsUnfound has wants misread
misread_in_file has p words asked misread asks is =
    let same : is.outcome ≡ Ok asks.given = reads_alike p words is.outcome (Ok asks.given) is.reads asks.reads in
    let wanted : (is.outcome >>= wanted_of p) ≡ Ok asks.wants = ap (λ (o : Result (List Argument) Misread). o >>= wanted_of p) same ∙ asks.is_wanted in
    ⊎_elim
    (λ refused. absurd (let both : Ok asks.wants ≡ Err misread = sym wanted ∙ refused in cc both))
    (λ unfound. (unfound.0, unfound.2))
    is.is
