use Rattle.std.proofs.Common.{◌≡◌, ◌∙◌, sym, true, false}
use Rattle.std.proofs.lemmas.Result.{on_ok_weaker}
use Rattle.guppy_changes.specs.Adding.{Adds}
use Rattle.guppy_changes.specs.Shown.{all_shown, shown}
use Rattle.guppy_changes.proofs.Steps.{adds_where, adds_where_not}
use Rattle.guppy_changes.proofs.adding.add_if.Goals as goal

pub returns-then-is_never : goal.returns-then-is_never
returns-then-is_never c = adds_where_not (all_shown c.args.marks.now.items) (λ there. there (c.is_never.ensures.0 c.if-is_never.true))

pub returns : goal.returns
returns c =
    on_ok_weaker c.add.result (λ (a : Adds (λ m. m ≡ shown c.args.mark) (all_shown c.args.marks.now.items) (all_shown c.add.new.marks.items)).
    adds_where (λ never. let no : false ≡ true = sym c.if-is_never.false ∙ c.is_never.ensures.1 never in absurd (cc)) a) c.add.ensures
