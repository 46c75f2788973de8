use Rattle.std.proofs.lemmas.Result.{on_ok_weaker}
use Rattle.guppy_data.specs.declared.texts.dependency_kind.DependencyKind.TheVariants.{Development}
use Rattle.guppy_changes.specs.Adding.{Adds}
use Rattle.guppy_changes.specs.Shown.{SectionMarks, all_shown}
use Rattle.guppy_changes.proofs.Steps.{adds_then}
use Rattle.guppy_changes.proofs.links.add_link.Goals as goal

pub returns : goal.returns
returns c =
    on_ok_weaker c.add_section-3.result (λ (last : Adds (SectionMarks c.args.link.now Development) (all_shown c.add_section-2.new.marks.items) (all_shown c.add_section-3.new.marks.items)).
    adds_then c.in_ok-add_section.ensures (adds_then c.in_ok-add_section-2.ensures last)) c.add_section-3.ensures
