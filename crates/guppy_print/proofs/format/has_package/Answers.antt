use Rattle.std.proofs.Common.{sym}
use Rattle.std.proofs.lemmas.Bool.{false_from_ne_true}
use Rattle.guppy_command.specs.Ids.{has_id}
use Rattle.guppy_print.proofs.KnownIds.{known-has_id, has_id-known}
use Rattle.guppy_print.proofs.format.has_package.Goals as goal

pub returns-in-Ok-clause-exact : goal.returns-in-Ok-clause-exact
returns-in-Ok-clause-exact c = sym (known-has_id c.args.id.now c.args.graph.now.packages (c.in-Ok.field-0.position, c.in-Ok.ensures.found.1))

pub returns : goal.returns
returns c = record {
  exact = sym (false_from_ne_true (has_id c.args.id.now c.args.graph.now.packages)
      (λ has. let no = c.in-Err.ensures.known (has_id-known c.args.id.now c.args.graph.now.packages has) in absurd (cc no)));
  err = tt;
}
