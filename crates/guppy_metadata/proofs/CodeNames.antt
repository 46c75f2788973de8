-- Names by which the code uses dependencies.
use Rattle.std.proofs.Common.{◌≡◌, ◌≢◌, ◌∙◌, inl, inr, ℕ, ◌==◌, ◌&&◌, ◌||◌, ◌⊎◌, Bool, true, List, [], ◌∷◌, length, refl, sym, ap, arith, string_bytes}
use Rattle.std.specs.Str.{bytes_eq}
use Rattle.std.proofs.lemmas.Bool.{eqb-true, or_cases}
use Rattle.std.proofs.lemmas.Slice.Eq.{bytes_eq-Decides}
use Rattle.semver.proofs.Segments.{and-left, and-right}
use Rattle.guppy_metadata.specs.declared.types.Declared.{Declared}
use Rattle.guppy_metadata.specs.declared.types.Resolved.{Resolved}
use Rattle.guppy_metadata.specs.declared.types.Package.{Package}
use Rattle.guppy_metadata.specs.Fits.{stands_for, is_named, letter_in_code, in_code, used_name, has_name, is_used, suits, fits}

letter_once : (letter code : ℕ) → stands_for letter code ≡ true → letter_in_code letter ≡ letter_in_code code
letter_once letter code stands = by (or_cases (letter == code) ((letter == 45) && (code == 95)) stands)
  where
    by : (((letter == code) ≡ true) ⊎ (((letter == 45) && (code == 95)) ≡ true)) → letter_in_code letter ≡ letter_in_code code
    by (inl same) = ap letter_in_code (eqb-true letter code same)
    by (inr both) =
        ap letter_in_code (eqb-true letter 45 (and-left (letter == 45) (code == 95) both))
        ∙ sym (ap letter_in_code (eqb-true code 95 (and-right (letter == 45) (code == 95) both)))

-- what is named so has this name in the code
named_once : (name code : List ℕ) → is_named name code ≡ true → in_code name ≡ in_code code
named_once [] [] named = refl
named_once [] (c ∷ code) named = absurd (cc)
named_once (l ∷ name) [] named = absurd (cc)
named_once (l ∷ name) (c ∷ code) named =
    ap (λ letter. letter ∷ in_code name) (letter_once l c (and-left (stands_for l c) (is_named name code) named))
    ∙ ap (λ letters. letter_in_code c ∷ letters) (named_once name code (and-right (stands_for l c) (is_named name code) named))

no_letters : (text : List ℕ) → length text ≡ 0 → text ≡ []
no_letters [] none = refl
no_letters (l ∷ text) none = absurd (omega arith)

-- what was resolved under a name is used by it
pub fitting_name : (asking : Package) (resolved : Resolved) (needed : Package) (x : Declared) → asking.id.now ≢ resolved.id.now → resolved.name.now ≢ [] → fits asking resolved needed x ≡ true
    → in_code (used_name x needed) ≡ in_code resolved.name.now
fitting_name asking resolved needed x other some fit =
    by (or_cases itself (has_name x needed name) (and-right called (itself || has_name x needed name) (and-left _ (is_used x resolved.usages.items) (and-left (suits asking resolved needed x) _ fit))))
  where
    name : List ℕ
    name = resolved.name.now

    called : Bool
    called = bytes_eq x.name.now (string_bytes needed.record.name)

    itself : Bool
    itself = bytes_eq asking.id.now resolved.id.now

    named : (((length name == 0) ≡ true) ⊎ (is_named (used_name x needed) name ≡ true)) → in_code (used_name x needed) ≡ in_code name
    named (inl empty) = absurd (some (no_letters name (eqb-true (length name) 0 empty)))
    named (inr is) = named_once (used_name x needed) name is

    by : ((itself ≡ true) ⊎ (has_name x needed name ≡ true)) → in_code (used_name x needed) ≡ in_code name
    by (inl same) = absurd (other ((bytes_eq-Decides asking.id.now resolved.id.now).0 same))
    by (inr has) = named (or_cases (length name == 0) (is_named (used_name x needed) name) has)
