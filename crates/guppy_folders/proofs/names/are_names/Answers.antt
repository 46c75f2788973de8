use Rattle.std.proofs.Common.{◌≡◌, true, subst, sym, refl, List}
use Rattle.std.specs.Prelude.{All}
use Rattle.std.proofs.lemmas.List.Elements.{All-head, All-nil}
use Rattle.guppy_data.specs.Path.{Part}
use Rattle.guppy_data.specs.Component.{part_shown, parts_left}
use Rattle.guppy_folders.specs.Folders.{IsName}
use Rattle.guppy_folders.proofs.LastNames.{names_more}
use Rattle.guppy_folders.proofs.names.are_names.Goals as goal

pub loop-part-init : goal.loop-part-init
loop-part-init c = rw c.into_iter-part-iterator.ensures.into_iter_gives (λ all. all, λ all. all)

pub returns-then-not-is_name : goal.returns-then-not-is_name
returns-then-not-is_name c = (
  λ h. absurd (cc h),
  λ all.
      let left = subst (λ (l : List Part). All IsName l) c.in-Some.ensures.steps (c.loop-part.invariant.0 all) in
      let is : c.is_name.result ≡ true = c.is_name.ensures.1 (All-head IsName (part_shown c.in-Some.part) (parts_left c.next.new.self) left) in absurd (cc),
)

pub loop-part-preserved : goal.loop-part-preserved
loop-part-preserved c =
    let more = names_more (part_shown c.in-Some.part) (parts_left c.next.new.self) (c.is_name.ensures.0 (cc)) in (
      λ all. more.0 (subst (λ (l : List Part). All IsName l) c.in-Some.ensures.steps (c.loop-part.invariant.0 all)),
      λ left. c.loop-part.invariant.1 (subst (λ (l : List Part). All IsName l) (sym c.in-Some.ensures.steps) (more.1 left)),
    )

pub returns : goal.returns
returns c = (λ h. c.loop-part.invariant.1 (rw c.in-None.ensures.steps.0 (All-nil IsName)), λ all. refl)
