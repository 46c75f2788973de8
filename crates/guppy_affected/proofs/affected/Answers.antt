use Rattle.std.proofs.Common.{map, string_bytes}
use Rattle.guppy_affected.specs.Affected.{AreAffectedIds}
use Rattle.guppy_affected.specs.Folders.{given_in}
use Rattle.guppy_affected.proofs.Iterators.{IfOk-along}
use Rattle.guppy_affected.proofs.Members.{ids_along, without_changed}
use Rattle.guppy_affected.proofs.affected.Goals as goal

pub returns-clause-answer : goal.returns-clause-answer
returns-clause-answer c =
    let g = c.args.graph.now in
    let paths = map string_bytes c.args.paths.now in
    let ignored = map string_bytes c.args.ignored.now in
    let also = given_in c.args.also.now in
    IfOk-along c.affected_after.result _ (λ ids. AreAffectedIds g paths ignored also (map (λ id. id.now) ids.items))
    (λ ids are. ids_along g (without_changed g paths ignored also) are) c.affected_after.ensures.answer
