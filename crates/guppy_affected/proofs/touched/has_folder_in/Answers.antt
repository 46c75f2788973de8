use Rattle.guppy_affected.proofs.touched.has_folder_in.Goals as goal

pub returns-in-Some : goal.returns-in-Some
returns-in-Some c = rw (← c.in-Some.ensures) c.is_in.ensures
