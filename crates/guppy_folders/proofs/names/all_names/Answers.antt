use Rattle.std.proofs.Common.{◌≡◌, ◌∙◌, ap, subst, sym, refl, ℕ, zero, suc, ◌+◌, ◌<◌, true, List, [], ◌∷◌, length, map, take, get_or, arith}
use Rattle.std.specs.Prelude.{All}
use Rattle.std.proofs.lemmas.List.{map_push, take_all, take_more}
use Rattle.std.proofs.lemmas.List.Elements.{All-head, All-push, All-tail}
use Rattle.guppy_data.specs.Component.{part_shown}
use Rattle.guppy_data.specs.Path.{Part}
use Rattle.guppy_data.specs.declared.texts.component.Component.{Component}
use Rattle.guppy_folders.specs.Folders.{IsName}
use Rattle.guppy_folders.proofs.names.all_names.Goals as goal

named_at : (parts : List Component) (i : ℕ) (d : Component) → i < length parts → All IsName (map part_shown parts) → IsName (part_shown (get_or parts i d))
named_at [] i d within all = absurd (omega arith)
named_at (p ∷ ps) zero d within all = All-head IsName (part_shown p) (map part_shown ps) all
named_at (p ∷ ps) (suc i) d within all = named_at ps i d (omega arith) (All-tail IsName (part_shown p) (map part_shown ps) all)

named_more : (parts : List Component) (i : ℕ) (d : Component) → i < length parts → All IsName (map part_shown (take i parts)) → IsName (part_shown (get_or parts i d)) → All IsName (map part_shown (take (i + 1) parts))
named_more parts i d within all name =
    subst (λ (l : List Part). All IsName l) (sym (ap (map part_shown) (take_more parts i d within) ∙ map_push part_shown (take i parts) (get_or parts i d)))
    (All-push IsName (map part_shown (take i parts)) (part_shown (get_or parts i d)) all name)

pub returns-then-not-is_name : goal.returns-then-not-is_name
returns-then-not-is_name c = (
  λ h. absurd (cc h),
  λ all. let is : c.is_name.result ≡ true = c.is_name.ensures.1 (named_at c.args.parts.now c.loop-part.part-index _ c.loop-part-test.true all) in absurd (cc),
)

pub loop-part-preserved : goal.loop-part-preserved
loop-part-preserved c = named_more c.args.parts.now c.loop-part.part-index _ c.loop-part-test.true c.loop-part.invariant (c.is_name.ensures.0 (cc))

pub returns : goal.returns
returns c =
    let all = take_all c.loop-part.part-index c.args.parts.now c.loop-part-test.false in
    (λ h. subst (λ (l : List Component). All IsName (map part_shown l)) all c.loop-part.invariant, λ h. refl)
