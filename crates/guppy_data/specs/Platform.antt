-- What a status says of a question about platforms.
use Rattle.std.specs.Prelude.{ℕ, Bool, Option, None, Some, List, [], ◌∷◌, ◌++◌, map}
use Rattle.guppy_data.specs.declared.platform.ternary.EnabledTernary.{EnabledTernary}
use Rattle.guppy_data.specs.declared.platform.ternary.EnabledTernary.TheVariants.{Disabled, Enabled}
use Rattle.guppy_data.specs.declared.platform.spec.PlatformSpec.{PlatformSpec}
use Rattle.guppy_data.specs.declared.platform.spec.PlatformSpec.TheVariants.{Always as SpecAlways, Platforms as SpecPlatforms, Any as SpecAny}
use Rattle.guppy_data.specs.declared.platform.status.PlatformStatusImpl.{PlatformStatusImpl}
use Rattle.guppy_data.specs.declared.platform.status.PlatformStatusImpl.TheVariants.{Always as ImplAlways, Specs as ImplSpecs}
use Rattle.guppy_data.specs.declared.platform.status.PlatformEval.{PlatformEval}
use Rattle.guppy_data.specs.declared.platform.status.PlatformStatus.{PlatformStatus}
use Rattle.guppy_data.specs.declared.platform.status.PlatformStatus.TheVariants.{Never as SeenNever, Always as SeenAlways, PlatformDependent as SeenDependent}
use Rattle.guppy_data.specs.Ternary.{greatest, ternary_of}

-- where something is enabled: nowhere, everywhere, or where one of its texts fits
pub data Status : Type 0 where
  Never : Status
  Always : Status
  Dependent : List (List ℕ) → Status

-- what is asked: is it enabled on every platform, on one of a list, on any at all
pub data Question (P : Type 0) : Type 0 where
  OnAlways : Question P
  OnPlatforms : List P → Question P
  OnAny : Question P

module _ {P : Type 0} (answer : List ℕ → P → Option Bool) where
  -- the value of texts for one platform: the greatest over the texts
  abbrev pub texts_value : List (List ℕ) → P → EnabledTernary
  texts_value texts platform = greatest (map (λ text. ternary_of (answer text platform)) texts)

  -- the value of a status for a question
  abbrev pub status_value : Status → Question P → EnabledTernary
  status_value Never question = Disabled
  status_value Always OnAny = Enabled
  status_value Always OnAlways = Enabled
  status_value Always (OnPlatforms []) = Disabled
  status_value Always (OnPlatforms (platform ∷ platforms)) = Enabled
  status_value (Dependent texts) OnAny = Enabled
  status_value (Dependent texts) OnAlways = Disabled
  status_value (Dependent texts) (OnPlatforms platforms) =
      greatest (map (texts_value texts) platforms)

-- the status of a list of texts
abbrev pub status_of_texts : List (List ℕ) → Status
status_of_texts [] = Never
status_of_texts (text ∷ texts) = Dependent (text ∷ texts)

-- the status that is recorded
abbrev pub recorded_status : PlatformStatusImpl → Status
recorded_status ImplAlways = Always
recorded_status (ImplSpecs specs) = status_of_texts specs.items

-- the texts of an evaluation
abbrev pub eval_texts : PlatformEval → List (List ℕ)
eval_texts eval = eval.specs.now

-- the status that is seen
abbrev pub seen_status : PlatformStatus → Status
seen_status SeenNever = Never
seen_status SeenAlways = Always
seen_status (SeenDependent eval) = Dependent (eval_texts eval)

-- the question that is asked
abbrev pub question_of : {P : Type 0} → PlatformSpec P → Question P
question_of SpecAlways = OnAlways
question_of (SpecPlatforms platforms) = OnPlatforms platforms.items
question_of SpecAny = OnAny

-- a status with the texts of another behind its own
abbrev pub extended : Status → Status → Status
extended Always other = Always
extended Never other = other
extended (Dependent texts) Never = Dependent texts
extended (Dependent texts) Always = Always
extended (Dependent texts) (Dependent more) = Dependent (texts ++ more)

-- a status with one more text, and `Always` where there is no text
abbrev pub with_spec : Status → Option (List ℕ) → Status
with_spec status None = Always
with_spec status (Some text) = extended status (Dependent (text ∷ []))
