-- What the components of a path show.
use Rattle.std.specs.Prelude.{List}
use Rattle.std.specs.List.{cons_option}
use Rattle.std.specs.Option.{option_map}
use Rattle.guppy_data.specs.declared.texts.component.Component.{Component}
use Rattle.guppy_data.specs.declared.texts.component.Component.TheVariants.{RootDir, CurDir, ParentDir, Normal}
use Rattle.guppy_data.specs.declared.texts.component.Components.{Components}
use Rattle.guppy_data.specs.Path.{Part, Root, Current, Parent, Name, parts}

abbrev pub part_shown : Component → Part
part_shown RootDir = Root
part_shown CurDir = Current
part_shown ParentDir = Parent
part_shown (Normal text) = Name text.now

-- the components that are still to come
abbrev pub parts_left : Components → List Part
parts_left s = cons_option (option_map part_shown s.lead) (parts s.rest.now)
