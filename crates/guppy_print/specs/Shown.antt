-- Answers without where they lie in memory.
use Rattle.std.specs.Prelude.{ℕ, List as ListOf, map}
use Rattle.guppy_command.specs.declared.options.Kinds.{Kinds}
use Rattle.guppy_print.specs.declared.answer.Answer.{Answer as GivenAnswer}
use Rattle.guppy_print.specs.declared.answer.Answer.TheVariants.{Set, List, Links, Rows, Needs, Steps, Built, Reasons, Features, Truth, AllWell, Drawing}
use Rattle.guppy_print.specs.declared.answer.LinkEnds.{LinkEnds}
use Rattle.guppy_print.specs.declared.answer.Step.{Step}
use Rattle.guppy_print.specs.Answer.{Answer, package_set, package_list, package_links, package_rows, package_needs, package_steps, built_rows, reasons, feature_rows, truth, all_well, drawing}
use Rattle.guppy_built.specs.Features.{feature_shown}
use Rattle.guppy_built.specs.Names.{step_shown as reason_shown}
use Rattle.guppy_built.specs.Rows.{row_of}
use Rattle.guppy_dot.specs.Dot.{drawing_shown}

-- the package by its ID, and the kinds
abbrev pub step_shown : Step → ListOf ℕ × Kinds
step_shown step = (step.id.now, step.kinds)

-- the IDs of the packages that the link goes from and to, and the kinds
abbrev pub link_shown : LinkEnds → ListOf ℕ × ListOf ℕ × Kinds
link_shown link = (link.from.now, link.to.now, link.kinds)

abbrev pub answer_shown : GivenAnswer → Answer
answer_shown (Set ids) = package_set (map (λ id. id.now) ids.items)
answer_shown (List ids) = package_list (map (λ id. id.now) ids.items)
answer_shown (Links links) = package_links (map link_shown links.items)
answer_shown (Rows rows) = package_rows (map (λ row. map (λ id. id.now) row.items) rows.items)
answer_shown (Needs rows) = package_needs (map (λ row. map (λ id. id.now) row.items) rows.items)
answer_shown (Steps steps) = package_steps (map step_shown steps.items)
answer_shown (Built rows) = built_rows (map row_of rows.items)
answer_shown (Reasons steps) = reasons (map reason_shown steps.items)
answer_shown (Features rows) = feature_rows (map feature_shown rows.items)
answer_shown (Truth holds) = truth holds
answer_shown AllWell = all_well
answer_shown (Drawing drawn) = drawing (drawing_shown drawn)
