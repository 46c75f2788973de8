-- The first unknown text of a list, and the errors that name it.
use Rattle.std.proofs.Common.{◌≡◌, ◌∙◌, sym, ap, refl, ℕ, List, [], ◌∷◌, ◌++◌, length, length-append, append_assoc, arith, All, map, Option, Some, None}
use Rattle.std.specs.Prelude.{IsSomeAnd}
use Rattle.std.specs.Iterator.{Yields}
use Rattle.std.proofs.iter.Next.{Yields-more}
use Rattle.std.proofs.lemmas.List.{map_push}
use Rattle.std.proofs.lemmas.List.Elements.{All-append, All-cons}
use Rattle.guppy_data.specs.declared.texts.fault.ConstructFault.{ConstructFault}
use Rattle.guppy_data.specs.declared.texts.error.Error.{Error}
use Rattle.guppy_data.specs.declared.texts.error.Error.TheVariants.{PackageGraphConstructError, OutOfMemory}
use Rattle.guppy_graph.specs.Refused.{TellsFault, NamesText, IsFirstNot, EndsInFirstNot}

some-along : (o : Option (List ℕ)) (P Q : List ℕ → Type 0) → ((text : List ℕ) → P text → Q text) → IsSomeAnd o P → IsSomeAnd o Q
some-along None P Q h n = absurd n
some-along (Some text) P Q h n = h text n

-- what an error says of the text that it names
pub NamesText-along : (named : Error → Option (List ℕ)) (P Q : List ℕ → Type 0) (e : Error) → ((text : List ℕ) → P text → Q text) → NamesText named P e → NamesText named Q e
NamesText-along named P Q OutOfMemory h n = n
NamesText-along named P Q e h n = some-along (named e) P Q h n

pub TellsFault-along : (P Q : ConstructFault → Type 0) (e : Error) → ((f : ConstructFault) → P f → Q f) → TellsFault P e → TellsFault Q e
TellsFault-along P Q (PackageGraphConstructError f) h n = h f n
TellsFault-along P Q _ h n = n

-- where memory ran out, no fault is told
pub memory_told : (P : ConstructFault → Type 0) (e : Error) → e ≡ OutOfMemory → TellsFault P e
memory_told P e is = rw is tt

module _ (Known : List ℕ → Type 0) where
  -- an unknown text alone
  pub first_unknown-alone : (text : List ℕ) → (Known text → ⊥) → IsFirstNot Known (text ∷ []) text
  first_unknown-alone text unknown = record { before = []; after = []; place = refl; known = λ k d h. absurd (omega arith); unknown = unknown }

  -- known texts in front change nothing
  pub first_unknown-front : (front texts : List (List ℕ)) (text : List ℕ) → All Known front → IsFirstNot Known texts text → IsFirstNot Known (front ++ texts) text
  first_unknown-front front texts text known first = record {
    before = front ++ first.before;
    after = first.after;
    place = ap (λ l. front ++ l) first.place ∙ sym (append_assoc front first.before (text ∷ first.after));
    known = All-append Known front first.before known first.known;
    unknown = first.unknown;
  }

  -- nor does one known text
  pub first_unknown-cons : (front : List ℕ) (texts : List (List ℕ)) (text : List ℕ) → Known front → IsFirstNot Known texts text → IsFirstNot Known (front ∷ texts) text
  first_unknown-cons front texts text known first = first_unknown-front (front ∷ []) texts text (All-cons Known front [] known (λ k d h. absurd (omega arith))) first

  -- nor do texts behind
  pub first_unknown-behind : (texts behind : List (List ℕ)) (text : List ℕ) → IsFirstNot Known texts text → IsFirstNot Known (texts ++ behind) text
  first_unknown-behind texts behind text first = record {
    before = first.before;
    after = first.after ++ behind;
    place = ap (λ l. l ++ behind) first.place ∙ append_assoc first.before (text ∷ first.after) behind;
    known = first.known;
    unknown = first.unknown;
  }

  -- nor does what is behind those that were read
  pub first_unknown-read : (texts behind : List (List ℕ)) (text : List ℕ) → EndsInFirstNot Known texts text → IsFirstNot Known (texts ++ behind) text
  first_unknown-read texts behind text first = record {
    before = first.before;
    after = behind;
    place = ap (λ l. l ++ behind) first.place ∙ append_assoc first.before (text ∷ []) behind;
    known = first.known;
    unknown = first.unknown;
  }

  -- of one text it is that one
  first_of_one : (text found : List ℕ) (before after : List (List ℕ)) → text ∷ [] ≡ before ++ found ∷ after → found ≡ text
  first_of_one text found [] after e = cc
  first_of_one text found (b ∷ bs) after e = let short = simp length-append at (ap (λ (l : List (List ℕ)). length l) e) in absurd (omega arith)

  -- an iterator gave known texts, and then one that is unknown
  pub first_unknown-next : {S X : Type 0} (steps : S → Option X → S → Type 0) (text : X → List ℕ) (s t u : S) (asked : List X) (x : X) (found : List ℕ) → Yields steps s asked t → steps t (Some x) u → All Known (map text asked) → IsFirstNot Known (text x ∷ []) found
      → (given : List X) × (rest : S) × Yields steps s given rest × EndsInFirstNot Known (map text given) found
  first_unknown-next steps text s t u asked x found gave step known first = (
    asked ++ x ∷ [],
    u,
    Yields-more steps s asked t x u gave step,
    record {
      before = map text asked;
      place = rw map_push (ap (λ y. map text asked ++ y ∷ []) (sym (first_of_one (text x) found first.before first.after first.place)));
      known = known;
      unknown = first.unknown;
    },
  )
