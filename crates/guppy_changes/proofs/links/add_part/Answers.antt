use Rattle.std.proofs.lemmas.Result.{on_ok_weaker}
use Rattle.guppy_changes.specs.Adding.{Adds}
use Rattle.guppy_changes.specs.Shown.{NamedMarks, all_shown, need_shown}
use Rattle.guppy_changes.proofs.Steps.{adds_then}
use Rattle.guppy_changes.proofs.links.add_part.Goals as goal

pub returns : goal.returns
returns c =
    on_ok_weaker c.add_named.result (λ (named : Adds (NamedMarks c.args.id.now (need_shown c.args.need) c.args.part.now) (all_shown c.add_if-2.new.marks.items) (all_shown c.add_named.new.marks.items)).
    adds_then c.in_ok-add_if.ensures (adds_then c.in_ok-add_if-2.ensures named)) c.add_named.ensures
