use Rattle.std.proofs.lemmas.List.Sorted.{length_permutation}
use Rattle.guppy.proofs.workspace.Workspace.member_count.Goals as goal

pub returns : goal.returns
returns c = length_permutation _ _ c.members_by_path.ensures.permutation
