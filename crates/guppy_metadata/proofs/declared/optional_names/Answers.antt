use Rattle.std.proofs.Common.{◌∙◌, ap, map}
use Rattle.std.specs.String.{string_bytes}
use Rattle.guppy_metadata.proofs.Dependencies.{optional_more, required_more}
use Rattle.guppy_metadata.proofs.declared.optional_names.Goals.{then-dependency+in_ok-from_str+in_ok-insert, else-dependency}
use Rattle.guppy_metadata.proofs.declared.optional_names.Goals as goal

pub loop-dependency-preserved : goal.loop-dependency-preserved
loop-dependency-preserved c =
    let dependency = c.dependency-item.result in
    elim c.if-dependency.branch [
      | then-dependency+in_ok-from_str+in_ok-insert w ↦
          ap (λ names. map string_bytes names.keys) w.names-is ∙ (ap (map string_bytes) w.in_ok-insert.ensures.keys
          ∙ optional_more c.args.declared.now c.loop-dependency.dependency-index dependency _ c.loop-dependency.names.keys w.in_ok-from_str.field-0 c.loop-dependency-test.true c.dependency-item.is w.if-dependency.true
          (w.in_ok-from_str.ensures.ok ∙ w.dep_name.ensures) c.loop-dependency.invariant)
      | else-dependency w ↦
          required_more c.args.declared.now c.loop-dependency.dependency-index dependency _ _ c.loop-dependency-test.true c.dependency-item.is w.if-dependency.false (ap (λ names. map string_bytes names.keys) w.names-is ∙ c.loop-dependency.invariant)
    ]
