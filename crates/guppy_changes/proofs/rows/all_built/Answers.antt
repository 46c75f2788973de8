use Rattle.std.proofs.Common.{List, ℕ, map, subst}
use Rattle.guppy_built.specs.Rows.{AreBuiltAsResolved, row_of}
use Rattle.guppy_changes.specs.Changes.{all_of, setting_of}
use Rattle.guppy_changes.proofs.rows.all_built.Goals as goal

pub returns-in-Ok : goal.returns-in-Ok
returns-in-Ok c =
    record {
      ids = c.in_ok-members.members.items;
      members = c.in_ok-members.ensures.members;
      built = subst (λ (ids : List (List ℕ)). AreBuiltAsResolved c.args.graph.now (all_of ids (setting_of c.args.setting.now)) (map row_of c.in-Ok.rows.items)) c.as_slice.ensures.value c.in-Ok.ensures.ok;
    }
