use Rattle.std.proofs.Common.{◌∙◌, ap, subst, sym, map, ℕ, List}
use Rattle.guppy_arguments.specs.Nearest.{IsFar}
use Rattle.guppy_arguments.specs.Scripts.{all_names}
use Rattle.guppy_arguments.proofs.told.no_option.Goals as goal

pub returns-clause-nearest : goal.returns-clause-nearest
returns-clause-nearest c =
    let names = ap (map (λ name. name.now)) c.as_slice.ensures.value ∙ c.in_ok-all_names.ensures in
    let far = rw c.in-None.is at c.in_ok-nearest.ensures in
    (subst (λ (word : List ℕ). IsFar word all_names) (sym c.in_ok-from_str-in-None.ensures.ok) (subst (IsFar c.args.word.now) names far), tt)
