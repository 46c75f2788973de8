use Rattle.std.proofs.Common.{arith, map}
use Rattle.std.proofs.lemmas.Option.{none-some}
use Rattle.json.specs.Value.{value_view}
use Rattle.guppy_declared.specs.Parts.{IsPairAskedBy}
use Rattle.guppy_declared.specs.Shown.{member_shown, pair_shown}
use Rattle.guppy_declared.proofs.Growing.{grown_more, grown_all, step_none}
use Rattle.guppy_declared.proofs.Members.{step_asked}
use Rattle.guppy_declared.proofs.add_asked.Goals.{in-Some+in_ok-add_named, in_default}
use Rattle.guppy_declared.proofs.add_asked.Goals as goal

pub loop-dependency-preserved : goal.loop-dependency-preserved
loop-dependency-preserved c =
    let members = map member_shown c.args.members.now in
    let from = c.args.from.now in
    let dependency = c.dependency-item.result in
    let mid = map pair_shown c.loop-dependency.pairs.items in
    grown_more (IsPairAskedBy members from) value_view c.args.dependencies.now c.loop-dependency.dependency-index dependency _ c.loop-dependency-test.true c.dependency-item.is (map pair_shown c.args.pairs.now.items) mid
    (map pair_shown c.match-path_asked.pairs.items) c.loop-dependency.invariant (
    elim c.match-path_asked.branch [
      | in-Some+in_ok-add_named w ↦ rw w.pairs-is (step_asked members from w.in-Some.folder.now (value_view dependency) mid (map pair_shown w.add_named.new.pairs.items) w.in-Some.ensures w.in_ok-add_named.ensures)
      | in_default w ↦ rw w.pairs-is (step_none (IsPairAskedBy members from) (value_view dependency) mid (λ y said. none-some _ ((w.in_default.ensures said.0).1 said.1)))
    ])

pub returns : goal.returns
returns c =
    grown_all (IsPairAskedBy (map member_shown c.args.members.now) c.args.from.now) value_view c.args.dependencies.now c.loop-dependency.dependency-index (let past = c.loop-dependency-test.false in omega arith) (map pair_shown c.args.pairs.now.items)
    (map pair_shown c.loop-dependency.pairs.items) c.loop-dependency.invariant
