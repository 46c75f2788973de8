-- What is read, without where it lies in memory.
use Rattle.std.specs.Prelude.{ℕ, List, string_bytes}
use Rattle.std.specs.declared.alloc.Global.{Global}
use Rattle.std.specs.Prelude.{String}
use Rattle.json.specs.Json.{Json}
use Rattle.json.specs.Value.{value_view}
use Rattle.guppy_declared.specs.declared.Member.{Member}

-- the package and its ID
abbrev pub member_shown : Member → Json × List ℕ
member_shown member = (value_view member.value.now, member.id.now)

-- two IDs
abbrev pub pair_shown : String Global × String Global → List ℕ × List ℕ
pair_shown pair = (string_bytes pair.0, string_bytes pair.1)
