-- The text of a path to which a component is added.
use Rattle.std.proofs.Common.{◌≡◌, ◌≢◌, false, ◌++◌, List, [], ◌∷◌, if◌then◌else◌, refl, append_assoc, codes}
use Rattle.guppy_data.specs.declared.texts.component.Component.{Component}
use Rattle.guppy_data.specs.declared.texts.component.Component.TheVariants.{RootDir, CurDir, ParentDir, Normal}
use Rattle.guppy_data.specs.Component.{part_shown}
use Rattle.guppy_data.specs.Path.{Part, Root, Current, Parent, Name}
use Rattle.guppy_metadata.specs.Path.{is_parent, part_text, text_of}
use Rattle.guppy_metadata.specs.PathText.{is_open}

-- one more component stands behind a slash where one is wanted
pub text_of-push : (parts : List Part) (part : Part)
    → text_of (parts ++ part ∷ []) ≡ text_of parts ++ (if is_open parts then codes "/" else []) ++ part_text part
text_of-push [] part = refl
text_of-push (Root ∷ []) part = refl
text_of-push (Current ∷ []) part = refl
text_of-push (Parent ∷ []) part = refl
text_of-push (Name text ∷ []) part = refl
text_of-push (first ∷ next ∷ parts) part = rw (text_of-push (next ∷ parts) part) (simp append_assoc)

-- and where one is wanted behind it, it alone says
pub is_open-push : (parts : List Part) (part : Part) → is_open (parts ++ part ∷ []) ≡ is_open (part ∷ [])
is_open-push [] part = refl
is_open-push (first ∷ []) part = refl
is_open-push (first ∷ next ∷ parts) part = is_open-push (next ∷ parts) part

pub is_parent-other : (component : Component) → component ≢ ParentDir → is_parent (part_shown component) ≡ false
is_parent-other RootDir other = refl
is_parent-other CurDir other = refl
is_parent-other ParentDir other = absurd (other refl)
is_parent-other (Normal text) other = refl
