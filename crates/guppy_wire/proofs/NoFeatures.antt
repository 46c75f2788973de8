-- The text of a side that asks for no features.
use Rattle.std.proofs.Common.{◌≡◌, ◌++◌, ℕ, List, [], ◌∷◌, length, refl, ap, codes, arith}
use Rattle.std.proofs.lemmas.Fmt.{decimal_digit}
use Rattle.std.specs.BTreeMap.{btree_map_len}
use Rattle.guppy_data.specs.declared.platform.status.PlatformStatusImpl.{PlatformStatusImpl}
use Rattle.guppy_data.specs.declared.platform.status.PlatformStatusImpl.TheVariants.{Always, Specs}
use Rattle.guppy_data.specs.declared.records.DepRequiredOrOptional.{DepRequiredOrOptional}
use Rattle.guppy_data.specs.Platform.{Never, recorded_status, status_of_texts}
use Rattle.guppy_wire.specs.Link.{feature_status_text, features_text, status_text}
use Rattle.guppy_wire.specs.Parts.{field, listed}

none_listed : {A : Type 0} (text_of : A → List ℕ) (items : List A) → length items ≡ 0 → listed text_of items ≡ codes "0;"
none_listed text_of [] is = ap (λ count. count ++ codes ";" ++ []) (decimal_digit 0 (omega arith))
none_listed text_of (x ∷ xs) is = let none : ⊥ = omega (arith, is) in absurd none

no_texts : (texts : List (List ℕ)) → status_of_texts texts ≡ Never → length texts ≡ 0
no_texts [] is = refl
no_texts (x ∷ xs) is = cc

never_text : (status : PlatformStatusImpl) → recorded_status status ≡ Never → status_text status ≡ codes "0;"
never_text Always is = cc
never_text (Specs specs) is = none_listed field specs.items (no_texts specs.items is)

pub no_features : (side : DepRequiredOrOptional) → recorded_status side.default_features_if ≡ Never → recorded_status side.no_default_features_if ≡ Never
    → btree_map_len side.feature_targets ≡ 0 → features_text side ≡ codes "0;0;0;"
no_features side on off none = rw (never_text _ on, never_text _ off, none_listed feature_status_text side.feature_targets.entries none) refl
