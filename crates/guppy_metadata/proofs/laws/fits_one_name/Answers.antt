use Rattle.std.proofs.Common.{◌∙◌, sym}
use Rattle.guppy_metadata.proofs.CodeNames.{fitting_name}
use Rattle.guppy_metadata.proofs.laws.fits_one_name.Goals as goal

pub returns : goal.returns
returns c asking needed resolved x y other some one two = fitting_name asking resolved needed x other some one ∙ sym (fitting_name asking resolved needed y other some two)
