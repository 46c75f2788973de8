-- What Cargo builds, and why a feature is on, as JSON.
use Rattle.std.specs.Prelude.{List, codes}
use Rattle.json.specs.Json.{Json, Members, string, object, no_members, member}
use Rattle.guppy_data.specs.declared.records.PackageRecord.{PackageRecord}
use Rattle.guppy_features.specs.declared.fact.BuildPlatform.{BuildPlatform}
use Rattle.guppy_built.specs.Features.{FeatureData}
use Rattle.guppy_built.specs.Names.{NamedFactData, Said, StepData, takes_part, switched_on, feature_on}
use Rattle.guppy_built.specs.Rows.{Row}
use Rattle.guppy_print.specs.BuildLines.{side_text}
use Rattle.guppy_print.specs.Objects.{array_of, package_object, packages_array}

-- what is built: the package, the platform, and the features
abbrev pub built_object : List PackageRecord → Row → Json
built_object packages row = object
    (member (codes "package") (package_object packages row.id)
    (member (codes "platform") (string row.platform)
    (member (codes "features") (array_of string row.features) no_members)))

-- the side
abbrev pub side_value : BuildPlatform → Json
side_value side = string (side_text side)

-- a feature, the side on which it is on, and the packages that ask for it
abbrev pub feature_object : List PackageRecord → FeatureData → Json
feature_object packages on = object
    (member (codes "feature") (string on.name)
    (member (codes "side") (side_value on.side)
    (member (codes "asked_by") (packages_array packages on.askers) no_members)))

-- what is said of the package, in front of these members: nothing where it takes part, a dependency, or a feature
abbrev pub said_members : Said → Members → Members
said_members takes_part more = more
said_members (switched_on name) more = member (codes "dependency") (string name) more
said_members (feature_on name) more = member (codes "feature") (string name) more

-- the package, the side, and what is said of it, in front of these members
abbrev pub fact_members : List PackageRecord → NamedFactData → Members → Members
fact_members packages f more =
    member (codes "package") (package_object packages f.id)
    (member (codes "side") (side_value f.side) (said_members f.said more))

-- a fact
abbrev pub fact_object : List PackageRecord → NamedFactData → Json
fact_object packages f = object (fact_members packages f no_members)

-- a fact, and for which others it holds
abbrev pub reason_object : List PackageRecord → StepData → Json
reason_object packages step = object (fact_members packages step.fact
    (member (codes "for") (array_of (fact_object packages) step.grounds) no_members))
