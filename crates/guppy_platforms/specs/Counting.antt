-- Which sections of a link count on the platforms that are asked about.
use Rattle.std.specs.Prelude.{Bool, true, false, ◌||◌, ◌&&◌}
use Rattle.guppy_data.specs.declared.platform.ternary.EnabledTernary.{EnabledTernary}
use Rattle.guppy_data.specs.declared.platform.ternary.EnabledTernary.TheVariants.{Disabled}
use Rattle.guppy_data.specs.declared.records.DependencyReqImpl.{DependencyReqImpl}
use Rattle.guppy_data.specs.declared.records.LinkRecord.{LinkRecord}
use Rattle.guppy_data.specs.Platform.{Question, OnAny}
use Rattle.guppy_target.specs.Answer.{answer_of}
use Rattle.guppy_target.specs.Platform.{PlatformData}
use Rattle.guppy_target.specs.Sections.{section_value}
use Rattle.guppy_platforms.specs.declared.counting.Counting.{Counting}

-- a value that isn't off: on, or not known
abbrev pub may_be_on : EnabledTernary → Bool
may_be_on Disabled = false
may_be_on _ = true

-- the section asks for the dependency, required or optional, on one of the platforms in question, or that isn't known
abbrev pub counts : Question PlatformData → DependencyReqImpl → Bool
counts question section = may_be_on (section_value answer_of question section)

-- the section counts on the platforms in question or, where it is judged there too, on the host
abbrev pub counts_either : Question PlatformData → Question PlatformData → Bool → DependencyReqImpl → Bool
counts_either question host there section = counts question section || (there && counts host section)

-- which sections count of a link whose package runs on the host, or doesn't: what it builds with runs there
abbrev pub counting_of : Question PlatformData → Question PlatformData → Bool → LinkRecord → Counting
counting_of question host runs r = record {
  normal = counts_either question host runs r.normal;
  build = counts_either question host true r.build;
  dev = counts_either question host runs r.dev;
}

-- the section asks for the dependency, required or optional, on some platform
abbrev pub is_asked_for : DependencyReqImpl → Bool
is_asked_for section = counts OnAny section

-- one of the link's sections does
abbrev pub has_section : LinkRecord → Bool
has_section r = is_asked_for r.normal || is_asked_for r.build || is_asked_for r.dev
