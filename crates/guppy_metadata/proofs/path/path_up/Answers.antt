use Rattle.std.proofs.Common.{◌++◌, [], ◌∷◌, map, append_assoc}
use Rattle.std.proofs.lemmas.List.{map-append}
use Rattle.guppy_data.specs.Path.{Part, Parent}
use Rattle.guppy_data.specs.Component.{part_shown}
use Rattle.guppy_metadata.proofs.Paths.{is_parent-other}
use Rattle.guppy_metadata.proofs.path.path_up.Goals as goal

pub loop-component-preserved : goal.loop-component-preserved
loop-component-preserved c =
    let h = c.loop-component.invariant in
    let other = is_parent-other c.in-Some.component c.in_default.not-ParentDir in (
      rw (c.in-Some.ensures.steps, other) at h.0,
      (
        h.1.0 ++ part_shown c.in-Some.component ∷ [],
        rw append_assoc (rw c.in-Some.ensures.steps at h.1.1),
        rw map-append (c.in_ok-push.ensures (map (λ (part : Part). Parent) h.1.0) h.1.2),
      ),
    )
