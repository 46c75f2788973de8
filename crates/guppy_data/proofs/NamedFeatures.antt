-- What the text of a feature switches on, by how it is cut.
use Rattle.std.proofs.Common.{ℕ, true, false, List, ◌++◌, ◌≡◌, ◌∙◌, sym, ap, codes, append_assoc}
use Rattle.std.specs.String.{string_bytes}
use Rattle.guppy_data.specs.NamedFeature.{IsFeature}
use Rattle.guppy_data.specs.Texts.{named_feature_text}
use Rattle.guppy_data.specs.declared.texts.named_feature.NamedFeatureDep.{NamedFeatureDep}
use Rattle.guppy_data.specs.declared.texts.named_feature.NamedFeatureDep.TheVariants.{NamedFeature, OptionalDependency, DependencyNamedFeature}

-- what is printed is the text
pub printed-is : (text : List ℕ) (d : NamedFeatureDep) → IsFeature text d → named_feature_text d ≡ text
printed-is text (NamedFeature f) h = sym h.2
printed-is text (OptionalDependency name) h = sym h.1
printed-is text (DependencyNamedFeature name f false) h =
    sym (h.1.0 ∙ ap (λ l. l ++ (codes "/" ++ string_bytes f)) h.2.0)
printed-is text (DependencyNamedFeature name f true) h =
    sym (h.1.0 ∙ ap (λ l. l ++ (codes "/" ++ string_bytes f)) h.2 ∙ append_assoc (string_bytes name) (codes "?") (codes "/" ++ string_bytes f))
