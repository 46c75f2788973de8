-- Texts that are cut at markers, and the one source that a text has.
use Rattle.std.proofs.Common.{ℕ, ◌↔◌, true, false, Option, ◌≡◌, ◌≢◌, ◌∙◌, sym, ap, refl, subst, ◌<◌, List, [], ◌∷◌, ◌++◌, length, take, drop, get_or, codes, eqb, arith, length-append, append_assoc, Some, None, rules}
use Rattle.std.proofs.lemmas.List.{append-nil, append_cancel_left, take-append-drop, drop_at, get_or_at}
use Rattle.std.proofs.lemmas.Str.Pattern.{NoCharPasses-char, drop_at_char}
use Rattle.std.specs.Str.{NoCharPasses}
use Rattle.std.specs.Str.Pattern.{FindsText, FindsTextPrefix, RFindsChar, SplitsAroundMatch, StripsPrefix}
use Rattle.guppy_data.specs.ExternalSource.{Source, Registry, Sparse, Git, Request, Branch, Tag, Rev, Default, Lacks, IsCutAt, IsRequest, IsSource, printed_request, printed_source}

-- what a found front leaves
pub front_from_strip : (front text rest : List ℕ) → StripsPrefix (FindsTextPrefix front) text rest → text ≡ front ++ rest
front_from_strip front text rest h = h.1.1 ∙ ap (λ l. front ++ l) (sym h.2)

-- a search that finds nothing
pub Lacks-from_find : (marker text : List ℕ) → FindsText marker text None → Lacks marker text
Lacks-from_find marker text h = λ before after e. h (length before) (omega (arith, ap length e, length-append before (marker ++ after))) after (ap (drop (length before)) e ∙ drop_at before (marker ++ after) (length before) refl)

-- a text without a character
Lacks-from_chars : (c : ℕ) (text : List ℕ) → c < 128 → NoCharPasses (λ d. eqb d c) text → Lacks (c ∷ []) text
Lacks-from_chars c text small h = λ before after e.
    NoCharPasses-char c text (length before) h small (omega (arith, ap length e, length-append before (c ∷ after))) (ap (λ l. get_or l (length before) 0) e ∙ get_or_at before c after 0 (length before) refl)

-- a cut at the first marker
pub IsCutAt-from_split : (marker text before after : List ℕ) → 0 < length marker → SplitsAroundMatch (FindsText marker) text before after → IsCutAt marker text before after
IsCutAt-from_split marker text before after some h =
    let whole : text ≡ before ++ (marker ++ after) = sym (take-append-drop h.0 text) ∙ ap (λ l. take h.0 text ++ l) h.2.1.split ∙ (λ k. sym h.3 k ++ (marker ++ sym h.4 k)) in
    (whole, λ early late e. h.2.0 (length early) (omega (arith, ap length e, length-append early (marker ++ late), length-append marker late, h.6)) (late ++ (marker ++ after)) (ap (drop (length early)) (whole ∙ ap (λ l. l ++ (marker ++ after)) e ∙ append_assoc early (marker ++ late) (marker ++ after) ∙ ap (λ l. early ++ l) (append_assoc marker late (marker ++ after))) ∙ drop_at early (marker ++ (late ++ (marker ++ after))) (length early) refl))

-- a cut at the last of a character
pub cut_from_rsplit : (c : ℕ) (text before after : List ℕ) → c < 128 → SplitsAroundMatch (RFindsChar c) text before after → (text ≡ before ++ (c ∷ after)) × Lacks (c ∷ []) after
cut_from_rsplit c text before after small h =
    (sym (take-append-drop h.0 text) ∙ ap (λ l. take h.0 text ++ l) (drop_at_char c text h.0 h.1 h.2.1 small) ∙ (λ k. sym h.3 k ++ (c ∷ sym h.4 k)), subst (Lacks (c ∷ [])) (sym h.4) (Lacks-from_chars c (drop h.1 text) small h.2.0))

-- equal texts begin alike and go on alike
heads : (x y : ℕ) (xs ys : List ℕ) → x ∷ xs ≡ y ∷ ys → x ≡ y
heads x y xs ys e = cc

tails : (x y : ℕ) (xs ys : List ℕ) → x ∷ xs ≡ y ∷ ys → xs ≡ ys
tails x y xs ys e = cc

-- no element is c
abbrev Free : ℕ → List ℕ → Type 0
Free c [] = Unit {0}
Free c (x ∷ xs) = (x ≢ c) × Free c xs

-- what stands before a c covers a text without c
covered : (c : ℕ) (m q a b : List ℕ) → Free c m → m ++ a ≡ q ++ (c ∷ b) → (z : List ℕ) × (q ≡ m ++ z)
covered c [] q a b free e = (q, refl)
covered c (x ∷ m) [] a b free e = absurd (free.0 (heads x c (m ++ a) b e))
covered c (x ∷ m) (y ∷ q) a b free e =
    let rest = covered c m q a b free.1 (tails x y (m ++ a) (q ++ (c ∷ b)) e) in
    (rest.0, λ i. heads y x (q ++ (c ∷ b)) (m ++ a) (sym e) i ∷ rest.1 i)

-- a text lacks what the text with one more in front lacks
Lacks-tail : (marker : List ℕ) (x : ℕ) (text : List ℕ) → Lacks marker (x ∷ text) → Lacks marker text
Lacks-tail marker x text h = λ before after e. h (x ∷ before) after (ap (λ l. x ∷ l) e)

-- a text that begins with a marker has it before any later marker
begins_earlier : (c : ℕ) (m q a b : List ℕ) (y : ℕ) → Free c m → c ∷ (m ++ a) ≡ y ∷ (q ++ (c ∷ (m ++ b))) → Lacks (c ∷ m) (y ∷ q) → ⊥
begins_earlier c m q a b y free e lacks =
    let rest = covered c m q a (m ++ b) free (tails c y (m ++ a) (q ++ (c ∷ (m ++ b))) e) in
    lacks [] rest.0 (λ i. heads y c (q ++ (c ∷ (m ++ b))) (m ++ a) (sym e) i ∷ rest.1 i)

-- a text has one cut at its first marker, as the marker's first character stands in it once
first_cut_unique : (c : ℕ) (m p q a b : List ℕ) → Free c m → p ++ (c ∷ (m ++ a)) ≡ q ++ (c ∷ (m ++ b)) → Lacks (c ∷ m) p → Lacks (c ∷ m) q → (p ≡ q) × (a ≡ b)
first_cut_unique c m [] [] a b free e lp lq = (refl, append_cancel_left (c ∷ m) a b e)
first_cut_unique c m [] (y ∷ q) a b free e lp lq = absurd (begins_earlier c m q a b y free e lq)
first_cut_unique c m (x ∷ p) [] a b free e lp lq = absurd (begins_earlier c m p b a x free (sym e) lp)
first_cut_unique c m (x ∷ p) (y ∷ q) a b free e lp lq =
    let rest = first_cut_unique c m p q a b free (tails x y (p ++ (c ∷ (m ++ a))) (q ++ (c ∷ (m ++ b))) e) (Lacks-tail (c ∷ m) x p lp) (Lacks-tail (c ∷ m) y q lq) in
    (λ i. heads x y (p ++ (c ∷ (m ++ a))) (q ++ (c ∷ (m ++ b))) e i ∷ rest.0 i, rest.1)

-- a text has one cut at its last c
last_cut_unique : (c : ℕ) (p q a b : List ℕ) → p ++ (c ∷ a) ≡ q ++ (c ∷ b) → Lacks (c ∷ []) a → Lacks (c ∷ []) b → (p ≡ q) × (a ≡ b)
last_cut_unique c [] [] a b e la lb = (refl, tails c c a b e)
last_cut_unique c [] (y ∷ q) a b e la lb = absurd (la q b (tails c y a (q ++ (c ∷ b)) e))
last_cut_unique c (x ∷ p) [] a b e la lb = absurd (lb p a (sym (tails x c (p ++ (c ∷ a)) b e)))
last_cut_unique c (x ∷ p) (y ∷ q) a b e la lb =
    let rest = last_cut_unique c p q a b (tails x y (p ++ (c ∷ a)) (q ++ (c ∷ b)) e) la lb in
    (λ i. heads x y (p ++ (c ∷ a)) (q ++ (c ∷ b)) e i ∷ rest.0 i, rest.1)

branch_free : Free 63 (codes "branch=")
branch_free = search rules

tag_free : Free 63 (codes "tag=")
tag_free = search rules

rev_free : Free 63 (codes "rev=")
rev_free = search rules

-- a text names one repository and asks one thing of it
request_unique : (text p q : List ℕ) (a b : Request) → IsRequest text p a → IsRequest text q b → (p ≡ q) × (a ≡ b)
request_unique text p q (Branch x) (Branch y) h k =
    let same = first_cut_unique 63 (codes "branch=") p q x y branch_free (sym h.0 ∙ k.0) h.1 k.1 in (same.0, ap Branch same.1)
request_unique text p q (Branch x) (Tag y) h k = absurd (k.0 p x h.0)
request_unique text p q (Branch x) (Rev y) h k = absurd (k.0 p x h.0)
request_unique text p q (Branch x) Default h k = absurd (k.0 p x h.0)
request_unique text p q (Tag x) (Branch y) h k = absurd (h.0 q y k.0)
request_unique text p q (Tag x) (Tag y) h k =
    let same = first_cut_unique 63 (codes "tag=") p q x y tag_free (sym h.1.0 ∙ k.1.0) h.1.1 k.1.1 in (same.0, ap Tag same.1)
request_unique text p q (Tag x) (Rev y) h k = absurd (k.1 p x h.1.0)
request_unique text p q (Tag x) Default h k = absurd (k.1 p x h.1.0)
request_unique text p q (Rev x) (Branch y) h k = absurd (h.0 q y k.0)
request_unique text p q (Rev x) (Tag y) h k = absurd (h.1 q y k.1.0)
request_unique text p q (Rev x) (Rev y) h k =
    let same = first_cut_unique 63 (codes "rev=") p q x y rev_free (sym h.2.0 ∙ k.2.0) h.2.1 k.2.1 in (same.0, ap Rev same.1)
request_unique text p q (Rev x) Default h k = absurd (k.2 p x h.2.0)
request_unique text p q Default (Branch y) h k = absurd (h.0 q y k.0)
request_unique text p q Default (Tag y) h k = absurd (h.1 q y k.1.0)
request_unique text p q Default (Rev y) h k = absurd (h.2 q y k.2.0)
request_unique text p q Default Default h k = (sym h.3 ∙ k.3, refl)

-- a text has one source
pub IsSource-unique : (text : List ℕ) (a b : Source) → IsSource text a → IsSource text b → a ≡ b
IsSource-unique text (Registry x) (Registry y) h k = ap Registry (append_cancel_left (codes "registry+") x y (sym h ∙ k))
IsSource-unique text (Registry x) (Sparse y) h k =
    let same = heads 114 115 (codes "egistry+" ++ x) (codes "parse+" ++ y) (sym h ∙ k) in absurd (omega arith)
IsSource-unique text (Registry x) (Git q b s) h k =
    let same = heads 114 103 (codes "egistry+" ++ x) (codes "it+" ++ (k.0 ++ (35 ∷ s))) (sym h ∙ k.1) in absurd (omega arith)
IsSource-unique text (Sparse x) (Registry y) h k =
    let same = heads 115 114 (codes "parse+" ++ x) (codes "egistry+" ++ y) (sym h ∙ k) in absurd (omega arith)
IsSource-unique text (Sparse x) (Sparse y) h k = ap Sparse (append_cancel_left (codes "sparse+") x y (sym h ∙ k))
IsSource-unique text (Sparse x) (Git q b s) h k =
    let same = heads 115 103 (codes "parse+" ++ x) (codes "it+" ++ (k.0 ++ (35 ∷ s))) (sym h ∙ k.1) in absurd (omega arith)
IsSource-unique text (Git p a r) (Registry y) h k =
    let same = heads 103 114 (codes "it+" ++ (h.0 ++ (35 ∷ r))) (codes "egistry+" ++ y) (sym h.1 ∙ k) in absurd (omega arith)
IsSource-unique text (Git p a r) (Sparse y) h k =
    let same = heads 103 115 (codes "it+" ++ (h.0 ++ (35 ∷ r))) (codes "parse+" ++ y) (sym h.1 ∙ k) in absurd (omega arith)
IsSource-unique text (Git p a r) (Git q b s) h k =
    let cut = last_cut_unique 35 h.0 k.0 r s (append_cancel_left (codes "git+") (h.0 ++ (35 ∷ r)) (k.0 ++ (35 ∷ s)) (sym h.1 ∙ k.1)) h.2 k.2 in
    let same = request_unique h.0 p q a b h.3 (subst (λ text. IsRequest text q b) (sym cut.0) k.3) in
    (λ i. Git (same.0 i) (same.1 i) (cut.1 i))

-- a text with the front of a repository and without `#` has no source
pub no_source : (text rest : List ℕ) → StripsPrefix (FindsTextPrefix (codes "git+")) text rest → RFindsChar 35 rest None → (source : Source) → IsSource text source → ⊥
no_source text rest strips finds (Registry x) h =
    let same = heads 103 114 (codes "it+" ++ rest) (codes "egistry+" ++ x) (sym (front_from_strip (codes "git+") text rest strips) ∙ h) in absurd (omega arith)
no_source text rest strips finds (Sparse x) h =
    let same = heads 103 115 (codes "it+" ++ rest) (codes "parse+" ++ x) (sym (front_from_strip (codes "git+") text rest strips) ∙ h) in absurd (omega arith)
no_source text rest strips finds (Git p a r) h =
    Lacks-from_chars 35 rest (omega arith) finds h.0 r (append_cancel_left (codes "git+") rest (h.0 ++ (35 ∷ r)) (sym (front_from_strip (codes "git+") text rest strips) ∙ h.1))

-- the repository and what is printed behind it are the text before the last `#`
printed_request-is : (text p : List ℕ) (a : Request) → IsRequest text p a → p ++ printed_request a ≡ text
printed_request-is text p (Branch x) h = sym h.0
printed_request-is text p (Tag x) h = sym h.1.0
printed_request-is text p (Rev x) h = sym h.2.0
printed_request-is text p Default h = append-nil p ∙ sym h.3

-- printing the source of a text gives the text
pub printed_source-is : (text : List ℕ) (a : Source) → IsSource text a → printed_source a ≡ text
printed_source-is text (Registry x) h = sym h
printed_source-is text (Sparse x) h = sym h
printed_source-is text (Git p a r) h =
    ap (λ l. codes "git+" ++ l) (sym (append_assoc p (printed_request a) (35 ∷ r)) ∙ ap (λ l. l ++ (35 ∷ r)) (printed_request-is h.0 p a h.3)) ∙ sym h.1

-- the parts of a text that is cut at its front, at its last `#` and at a marker
pub IsSource-from_cuts : (text rest front resolved p : List ℕ) (a : Request) → StripsPrefix (FindsTextPrefix (codes "git+")) text rest → SplitsAroundMatch (RFindsChar 35) rest front resolved → IsRequest front p a → IsSource text (Git p a resolved)
IsSource-from_cuts text rest front resolved p a strips splits request =
    let cut = cut_from_rsplit 35 rest front resolved (omega arith) splits in
    (front, front_from_strip (codes "git+") text rest strips ∙ ap (λ l. codes "git+" ++ l) cut.0, cut.1, request)

some_same : (a b : Source) → Some a ≡ Some b → a ≡ b
some_same a b e = cc

-- an answer that is a source of the text is the only one
pub only_source : (text : List ℕ) (a : Source) → IsSource text a → (source : Source) → (Some a ≡ Some source) ↔ IsSource text source
only_source text a h source =
    (λ e. subst (IsSource text) (some_same a source e) h, λ k. ap Some (IsSource-unique text a source h k))

-- a text with a source isn't without one
pub has_source : (text : List ℕ) (a : Source) → IsSource text a → (true ≡ false) ↔ ((source : Source) → IsSource text source → ⊥)
has_source text a h = (λ e. cc, λ none. absurd (none a h))

none_is_no_source : (source : Source) → None ≡ Some source → ⊥
none_is_no_source source e = cc

-- no answer is right where no source is one of the text
pub not_accepted : (text : List ℕ) (answer : Option Source) → answer ≡ None → ((source : Source) → IsSource text source → ⊥) → (source : Source) → (answer ≡ Some source) ↔ IsSource text source
not_accepted text answer is none source =
    (λ e. absurd (none_is_no_source source (sym is ∙ e)), λ h. absurd (none source h))
