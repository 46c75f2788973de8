use Rattle.std.proofs.Common.{refl}
use Rattle.guppy_folders.proofs.names.is_name.Goals as goal

pub returns-in-Normal : goal.returns-in-Normal
returns-in-Normal c = rw c.in-Normal.is (λ h. (c.in-Normal.field-0.now, refl), λ name. refl)
