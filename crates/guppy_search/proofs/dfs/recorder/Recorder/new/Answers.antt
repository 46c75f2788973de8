use Rattle.guppy_search.proofs.Exits.{if_ok}
use Rattle.guppy_search.proofs.dfs.recorder.Recorder.new.Goals as goal

pub returns-in_err-entries : goal.returns-in_err-entries
returns-in_err-entries g c = let none = c.from_residual.ensures.0 in record { visitor = if_ok _ _ none; entries = if_ok _ _ none; room = if_ok _ _ none }
