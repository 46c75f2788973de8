use Rattle.std.proofs.lemmas.Result.{on_ok_weaker}
use Rattle.guppy_graph.specs.Sections.{section_of}
use Rattle.guppy_changes.specs.Adding.{Adds}
use Rattle.guppy_changes.specs.Marks.{need}
use Rattle.guppy_changes.specs.Shown.{PartMarks, all_shown, kind_of}
use Rattle.guppy_changes.proofs.Steps.{adds_then}
use Rattle.guppy_changes.proofs.links.add_section.Goals as goal

pub returns : goal.returns
returns c =
    let link = c.args.link.now in
    let kind = kind_of c.args.section in
    let required = rw (c.section_of-req.ensures, c.as_str.ensures.value) at c.in_ok-add_part.ensures in
    let last = rw (c.section_of-req.ensures, c.as_str.ensures.value) at c.add_part-2.ensures in
    on_ok_weaker c.add_part-2.result (λ (optional : Adds (PartMarks link.from (need kind link) (section_of kind link).optional) (all_shown c.add_part.new.marks.items) (all_shown c.add_part-2.new.marks.items)).
    adds_then required optional) last
