use Rattle.std.proofs.Common.{◌∙◌, ap, subst, sym, map}
use Rattle.guppy_arguments.specs.Table.{command_names, option_names}
use Rattle.guppy_arguments.specs.Told.{IsNearestIfAny}
use Rattle.guppy_arguments.proofs.told.told.Goals as goal

pub returns-in_ok-copy_of_nearest-in-UnknownCommand-clause-nearest :
    goal.returns-in_ok-copy_of_nearest-in-UnknownCommand-clause-nearest
returns-in_ok-copy_of_nearest-in-UnknownCommand-clause-nearest c =
    let found = c.in_ok-copy_of_nearest-in-UnknownCommand in
    subst (λ word. IsNearestIfAny command_names word found.field-0) (sym c.in_ok-from_str-in-UnknownCommand.ensures.ok) found.ensures
