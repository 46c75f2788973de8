-- The names of sections, and the member `kind`.
use Rattle.std.proofs.Common.{inl, inr, ℕ, List, Option, None, Some, subst, codes}
use Rattle.json.specs.Json.{Json}
use Rattle.guppy_data.specs.declared.texts.dependency_kind.DependencyKind.{DependencyKind}
use Rattle.guppy_data.specs.declared.texts.dependency_kind.DependencyKind.TheVariants.{Normal, Development, Build}
use Rattle.guppy_metadata.specs.Asked.{HasName}
use Rattle.guppy_metadata.specs.Dependency.{NamesSection}
use Rattle.guppy_metadata.specs.Members.{IsText}
use Rattle.guppy_metadata.proofs.OnceTold.{optional_text_once}

module _ (d : Json) where
  -- a section is named by a text, or by none
  pub name_told : (section : DependencyKind) → NamesSection d section → (name : Option (List ℕ)) × IsText (codes "kind") d name
  name_told Normal (inl is) = (None, is)
  name_told Normal (inr is) = (Some (codes "normal"), is)
  name_told Development is = (Some (codes "dev"), is)
  name_told Build is = (Some (codes "build"), is)

  module _ (name : Option (List ℕ)) (told : IsText (codes "kind") d name) where
    -- the section that has the name is the one that is told
    pub section_told : (section : DependencyKind) → HasName name section → NamesSection d section
    section_told Normal (inl is) = inl (subst (IsText (codes "kind") d) is told)
    section_told Normal (inr is) = inr (subst (IsText (codes "kind") d) is told)
    section_told Development is = subst (IsText (codes "kind") d) is told
    section_told Build is = subst (IsText (codes "kind") d) is told

    -- the section that is told has the name
    pub name_has : (section : DependencyKind) → NamesSection d section → HasName name section
    name_has Normal (inl is) = inl (optional_text_once d (codes "kind") name None told is)
    name_has Normal (inr is) = inr (optional_text_once d (codes "kind") name (Some (codes "normal")) told is)
    name_has Development is = optional_text_once d (codes "kind") name (Some (codes "dev")) told is
    name_has Build is = optional_text_once d (codes "kind") name (Some (codes "build")) told is
