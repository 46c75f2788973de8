use Rattle.std.proofs.Common.{◌∙◌, List, map, ap, subst, OnOk}
use Rattle.json.specs.Json.{Json}
use Rattle.json.specs.Value.{value_view}
use Rattle.guppy_declared.specs.Grown.{IsGrown}
use Rattle.guppy_declared.specs.Parts.{IsPairAskedBy}
use Rattle.guppy_declared.specs.Shown.{member_shown, pair_shown}
use Rattle.guppy_declared.proofs.add_declared.Goals as goal

pub returns-in-Some : goal.returns-in-Some
returns-in-Some c =
    let R = IsPairAskedBy (map member_shown c.args.members.now) c.args.member.id.now in
    let same = ap (map value_view) c.as_slice.ensures.value ∙ c.in-Some.ensures in
    subst (λ (deps : List Json). OnOk c.add_asked.result (IsGrown R deps (map pair_shown c.args.pairs.now.items) (map pair_shown c.add_asked.new.pairs.items))) same c.add_asked.ensures
