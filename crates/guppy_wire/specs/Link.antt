-- The text of a link.
use Rattle.std.specs.Prelude.{◌≡◌, ℕ, List, [], ◌∷◌, ◌++◌, length, codes, Option, None, Some, String, string_bytes}
use Rattle.std.specs.declared.alloc.Global.{Global}
use Rattle.std.specs.Fmt.{decimal}
use Rattle.std.specs.List.{flat_map}
use Rattle.semver.specs.Identifiers.{marked, pre_text}
use Rattle.semver.specs.declared.Comparator.{Comparator}
use Rattle.semver.specs.declared.Op.{Op}
use Rattle.semver.specs.declared.Op.TheVariants.{Exact, Greater, GreaterEq, Less, LessEq, Tilde, Caret, Wildcard}
use Rattle.guppy_data.specs.declared.platform.status.PlatformStatusImpl.{PlatformStatusImpl}
use Rattle.guppy_data.specs.declared.platform.status.PlatformStatusImpl.TheVariants.{Always, Specs}
use Rattle.guppy_data.specs.declared.records.DepRequiredOrOptional.{DepRequiredOrOptional}
use Rattle.guppy_data.specs.declared.records.DependencyReqImpl.{DependencyReqImpl}
use Rattle.guppy_data.specs.declared.records.LinkRecord.{LinkRecord}
use Rattle.guppy_wire.specs.declared.links.LinkTexts.{LinkTexts}
use Rattle.guppy_wire.specs.Parts.{field, string_field, optional, listed}

-- `*` for all platforms, else their texts
abbrev pub status_text : PlatformStatusImpl → List ℕ
status_text Always = codes "*"
status_text (Specs specs) = listed field specs.items

-- where it is required, and where it is optional
abbrev pub section_text : DependencyReqImpl → List ℕ
section_text r = status_text r.required.build_if ++ status_text r.optional.build_if

-- a feature, and where it is on
abbrev pub feature_status_text : String Global × PlatformStatusImpl → List ℕ
feature_status_text feature = string_field feature.0 ++ status_text feature.1

-- where the default features are on, where they are off, and where each named feature is on
abbrev pub features_text : DepRequiredOrOptional → List ℕ
features_text r = status_text r.default_features_if ++ status_text r.no_default_features_if
    ++ listed feature_status_text r.feature_targets.entries

-- the features where it is required, and where it is optional
abbrev pub section_details_text : DependencyReqImpl → List ℕ
section_details_text r = features_text r.required ++ features_text r.optional

abbrev pub op_text : Op → List ℕ
op_text Exact = codes "="
op_text Greater = codes ">"
op_text GreaterEq = codes ">="
op_text Less = codes "<"
op_text LessEq = codes "<="
op_text Tilde = codes "~"
op_text Caret = codes "^"
op_text Wildcard = []

-- what stands for numbers that a comparator leaves open
abbrev pub open_text : Op → List ℕ
open_text Wildcard = codes ".*"
open_text _ = []

-- the numbers of a comparator behind its first, and its pre-release
abbrev pub numbers_text : Op → Option ℕ → Option ℕ → List ℕ → List ℕ
numbers_text op None patch pre = open_text op
numbers_text op (Some minor) None pre = codes "." ++ decimal minor ++ open_text op
numbers_text op (Some minor) (Some patch) pre =
    codes "." ++ decimal minor ++ codes "." ++ decimal patch ++ marked 45 pre

-- as `^1.2.3-beta` or `1.*`
abbrev pub comparator_text : Comparator → List ℕ
comparator_text c = op_text c.op ++ decimal c.major ++ numbers_text c.op c.minor c.patch (pre_text c.pre)

-- the comparators, parted by a comma and a space; `*` where there are none
abbrev pub requirement_text : List Comparator → List ℕ
requirement_text [] = codes "*"
requirement_text (first ∷ others) =
    comparator_text first ++ flat_map (λ other. codes ", " ++ comparator_text other) others

-- registry, path, the features of each section, and to its end the versions that are asked for
abbrev pub link_details : LinkRecord → List ℕ
link_details r = optional string_field r.registry ++ optional field r.path
    ++ section_details_text r.normal ++ section_details_text r.build ++ section_details_text r.dev
    ++ requirement_text r.version_req.comparators.items

abbrev pub link_text : LinkRecord → List ℕ
link_text r = field r.from ++ field r.to ++ string_field r.dep_name ++ string_field r.resolved_name
    ++ section_text r.normal ++ section_text r.build ++ section_text r.dev
    ++ field (link_details r)

-- these are the texts of the links, in their order, and so many they are
pub record AreTexts (texts : LinkTexts) (links : List LinkRecord) : Type 0 where
  pub count_is : texts.count ≡ length links
  pub texts_are : string_bytes texts.texts ≡ flat_map link_text links
