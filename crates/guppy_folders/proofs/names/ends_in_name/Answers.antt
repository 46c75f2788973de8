use Rattle.std.proofs.Common.{◌∙◌, ap, sym, List, [], ◌∷◌, ◌++◌, append_assoc}
use Rattle.guppy_data.specs.Path.{Part, Name}
use Rattle.guppy_data.specs.Component.{part_shown, parts_left}
use Rattle.guppy_folders.proofs.LastNames.{same_last}
use Rattle.guppy_folders.proofs.names.ends_in_name.Goals as goal

pub loop-part-preserved : goal.loop-part-preserved
loop-part-preserved c =
    let name = c.args.name.now in
    let part = part_shown c.in-Some.part in
    let seen = c.loop-part.invariant.0 in (
      seen ++ part ∷ [],
      c.loop-part.invariant.1 ∙ ap (λ (l : List Part). seen ++ l) c.in-Some.ensures.steps ∙ sym (append_assoc seen (part ∷ []) (parts_left c.next.new.self)),
      (
        λ h. (seen, ap (λ (p : Part). seen ++ p ∷ []) (c.is_named-ends.ensures.0 h)),
        λ (front, is). c.is_named-ends.ensures.1 (same_last seen front part (Name name) is),
      ),
    )
