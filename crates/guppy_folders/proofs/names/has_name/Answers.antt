use Rattle.std.proofs.Common.{◌≡◌, subst, sym, true, List, [], ◌∷◌, ℕ, zero, suc, arith}
use Rattle.std.proofs.lemmas.List.Elements.{Contains-append_right}
use Rattle.guppy_data.specs.Path.{Part, Name}
use Rattle.guppy_data.specs.Component.{part_shown, parts_left}
use Rattle.guppy_folders.specs.Folders.{HasName}
use Rattle.guppy_folders.proofs.names.has_name.Goals as goal

-- behind another component
behind : (name : List ℕ) (part : Part) (parts : List Part) → (part ≡ Name name → ⊥) → HasName name (part ∷ parts) → HasName name parts
behind name part parts other (zero, within, same) = absurd (other same)
behind name part parts other (suc k, within, same) = (k, omega arith, same)

pub loop-part-preserved : goal.loop-part-preserved
loop-part-preserved c =
    let name = c.args.name.now in
    let part = part_shown c.in-Some.part in
    let left = parts_left c.next.new.self in
    let other = λ (same : part ≡ Name name). let is : c.is_named.result ≡ true = c.is_named.ensures.1 same in absurd (cc) in (
      λ h. behind name part left other (subst (HasName name) c.in-Some.ensures.steps (c.loop-part.invariant.0 h)),
      λ h. c.loop-part.invariant.1 (subst (HasName name) (sym c.in-Some.ensures.steps) (Contains-append_right (part ∷ []) left (Name name) h)),
    )
