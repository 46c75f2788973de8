-- What is left of links of which only some sections count.
use Rattle.std.specs.Prelude.{◌≡◌, Bool, true, false, List}
use Rattle.std.specs.List.{AllZip, filter}
use Rattle.guppy_data.specs.declared.records.DependencyReqImpl.{DependencyReqImpl}
use Rattle.guppy_data.specs.declared.records.LinkRecord.{LinkRecord}
use Rattle.guppy_data.specs.declared.records.PackageRecord.{PackageRecord}
use Rattle.guppy_data.specs.Platform.{Question, OnAny, Never}
use Rattle.guppy_data.specs.Records.{AreSameButSections, IsRequired}
use Rattle.guppy_target.specs.Platform.{PlatformData}
use Rattle.guppy_platforms.specs.declared.counting.Counting.{Counting}
use Rattle.guppy_platforms.specs.Counting.{counting_of, has_section}
use Rattle.guppy_platforms.specs.Host.{IsMark}

-- a section that counts is left as it is, of any other nothing: it asks for the dependency nowhere
abbrev pub IsLeftOf : Bool → DependencyReqImpl → DependencyReqImpl → Type 0
IsLeftOf true section left = left ≡ section
IsLeftOf false section left = IsRequired Never left

-- the same link, with what is left of each section
pub record IsLinkLeft (counting : Counting) (link left : LinkRecord) : Type 0 where
  pub same : AreSameButSections link left
  pub normal : IsLeftOf counting.normal link.normal left.normal
  pub build : IsLeftOf counting.build link.build left.build
  pub dev : IsLeftOf counting.dev link.dev left.dev

module _ (question host : Question PlatformData) (packages : List PackageRecord) (links : List LinkRecord) where
  -- what is left of the link, which is judged as one whose package runs on the host where this does
  pub record IsLeftThere (link left : LinkRecord) : Type 0 where
    pub runs : Bool
    pub is_mark : IsMark packages links link runs
    pub is_left : IsLinkLeft (counting_of question host runs link) link left

  -- what is left of the links, without those of which no section is
  pub record OnlyCounting (kept : List LinkRecord) : Type 0 where
    pub left : List LinkRecord
    pub leaves : AllZip IsLeftThere links left
    pub kept_are : kept ≡ filter has_section left

-- whether platforms are named
abbrev pub are_named : Question PlatformData → Bool
are_named OnAny = false
are_named question = true

-- the links with the sections alone that count on the platforms in question or, of what runs on the host, there; all links
-- as they are, where no platforms are named
abbrev pub AreKept : Question PlatformData → Question PlatformData → List PackageRecord → List LinkRecord
    → List LinkRecord → Type 0
AreKept OnAny host packages links kept = kept ≡ links
AreKept question host packages links kept = OnlyCounting question host packages links kept
