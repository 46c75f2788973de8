-- Packages that are called by a text, found one by one.
use Rattle.std.proofs.Common.{◌≡◌, ◌∙◌, ℕ, ◌+◌, ◌<◌, Bool, true, false, cond, ◌||◌, List, [], ◌∷◌, ◌++◌, filter, map, take, length, get_or, refl, sym, ap, arith, codes, append_assoc, length-append}
use Rattle.std.specs.Str.{bytes_eq}
use Rattle.std.proofs.lemmas.List.{map-append}
use Rattle.std.proofs.lemmas.List.Elements.{filter_more}
use Rattle.std.proofs.lemmas.Slice.Eq.{bytes_eq-Decides}
use Rattle.semver.specs.Identifiers.{version_text}
use Rattle.guppy_data.specs.declared.records.PackageRecord.{PackageRecord}
use Rattle.guppy_command.specs.Ids.{full_name_of}
use Rattle.guppy_arguments.specs.Names.{name_of, is_called, called}

-- no text goes on behind itself
longer : (name rest : List ℕ) → name ≡ name ++ codes "@" ++ rest → ⊥
longer name rest same = omega (arith, length-append (name ++ codes "@") rest, length-append name (codes "@"), ap length same)

-- no text is both a package's name and its name with its version
called_once : (text : List ℕ) (r : PackageRecord) → bytes_eq text (name_of r) ≡ true → bytes_eq text (full_name_of r) ≡ true → ⊥
called_once text r by_name by_full = longer (name_of r) (version_text r.version) (sym ((bytes_eq-Decides text (name_of r)).0 by_name) ∙ (bytes_eq-Decides text (full_name_of r)).0 by_full)

either_of : {A B : Type 0} (seen : A → B) (x : A) (a b : Bool) → (a ≡ true → b ≡ true → ⊥) → map seen (cond (a || b) (x ∷ []) []) ≡ cond a (seen x ∷ []) [] ++ cond b (seen x ∷ []) []
either_of seen x true true not_both = absurd (not_both refl refl)
either_of seen x true false not_both = refl
either_of seen x false true not_both = refl
either_of seen x false false not_both = refl

-- the IDs of the first packages that are called so, and of one more
pub called_more : (packages : List PackageRecord) (k : ℕ) (r other : PackageRecord) → k < length packages → r ≡ get_or packages k other → (text : List ℕ)
    → called (take (k + 1) packages) text ≡ called (take k packages) text ++ cond (bytes_eq text (name_of r)) (r.id ∷ []) [] ++ cond (bytes_eq text (full_name_of r)) (r.id ∷ []) []
called_more packages k r other low is text =
    let ids : List PackageRecord → List (List ℕ) = map (λ p. p.id) in
    let before = filter (is_called text) (take k packages) in
    let by_name = bytes_eq text (name_of r) in
    let by_full = bytes_eq text (full_name_of r) in
    ap ids (filter_more (is_called text) packages k other low) ∙ (map-append (λ p. p.id) before _
    ∙ (ap (λ p. ids before ++ ids (cond (is_called text p) (p ∷ []) [])) (sym is)
    ∙ (ap (λ more. ids before ++ more) (either_of (λ p. p.id) r by_name by_full (called_once text r)) ∙ sym (append_assoc (ids before) _ _))))
