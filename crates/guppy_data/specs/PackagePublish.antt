-- Where a package may be published.
use Rattle.std.specs.Prelude.{ℕ, List, map}
use Rattle.std.specs.List.{Contains}
use Rattle.std.specs.String.{string_bytes}
use Rattle.guppy_data.specs.declared.records.PackagePublishRecord.{PackagePublishRecord}
use Rattle.guppy_data.specs.declared.records.PackagePublishRecord.TheVariants.{Unrestricted as RecordedUnrestricted, Registries as RecordedRegistries}
use Rattle.guppy_data.specs.declared.views.publish.PackagePublish.{PackagePublish}
use Rattle.guppy_data.specs.declared.views.publish.PackagePublish.TheVariants.{Unrestricted as SeenUnrestricted, Registries as SeenRegistries}

-- everywhere, or to the registries of these names alone
pub data Publish : Type 0 where
  Everywhere : Publish
  OnlyTo : List (List ℕ) → Publish

-- a registry of this name is one of them
abbrev pub MayPublishTo : Publish → List ℕ → Type 0
MayPublishTo Everywhere registry = Unit {0}
MayPublishTo (OnlyTo names) registry = Contains names registry

-- what is recorded
abbrev pub recorded_publish : PackagePublishRecord → Publish
recorded_publish RecordedUnrestricted = Everywhere
recorded_publish (RecordedRegistries names) = OnlyTo (map string_bytes names.items)

-- what is seen
abbrev pub seen_publish : PackagePublish → Publish
seen_publish SeenUnrestricted = Everywhere
seen_publish (SeenRegistries names) = OnlyTo (map string_bytes names.now)
