use Rattle.std.proofs.Common.{◌≡◌, ◌∙◌, true, false, inl, inr, sym}
use Rattle.guppy_features.specs.Questions.{is_library}
use Rattle.guppy_builds.proofs.building.Building.is_built.Goals as goal

pub returns-else-is_library : goal.returns-else-is_library
returns-else-is_library c =
    let on = rw c.as_slice.ensures.value at c.are_required_on.ensures in
    let asked = sym c.is_asked.ensures ∙ c.if-not-is_asked.false in (
      λ r. (asked, inr (on.0 r)),
      λ h. elim h.1 [
        | inl library ↦ let no : is_library c.args.target.now.id ≡ false = sym c.is_library.ensures ∙ c.if-is_library.false in let so : true ≡ false = sym library ∙ no in absurd cc
        | inr required ↦ on.1 required
      ],
    )
