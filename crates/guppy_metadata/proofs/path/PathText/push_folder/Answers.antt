use Rattle.std.proofs.Common.{◌++◌, [], ◌∷◌, append_assoc}
use Rattle.guppy_data.specs.Component.{part_shown}
use Rattle.guppy_metadata.proofs.path.PathText.push_folder.Goals as goal
use Rattle.guppy_metadata.proofs.path.PathText.push_folder.Goals.{in-Some-waiting+in_ok-push, in_default}

pub loop-component-preserved : goal.loop-component-preserved
loop-component-preserved c parts before =
    let h = c.loop-component.invariant parts before in
    elim c.match-waiting.branch [
      | in-Some-waiting+in_ok-push w ↦ (
        h.0 ++ part_shown w.in-Some-waiting.earlier ∷ [],
        rw append_assoc (rw (w.in-Some-waiting.is, c.in-Some.ensures.steps) at h.1),
        rw (w.self-is, ← append_assoc) (w.in_ok-push.ensures (parts ++ h.0) h.2),
        tt,
      )
      | in_default w ↦ (h.0, rw (w.in_default.is, c.in-Some.ensures.steps) at h.1, rw w.self-is h.2, tt)
    ]
