use Rattle.std.proofs.Common.{rules}
use Rattle.std.proofs.lemmas.Fn.{filter_same}
use Rattle.guppy_command.specs.Options.{is_of}
use Rattle.guppy_command.proofs.options.keep_of.Goals as goal

pub returns : goal.returns
returns c = filter_same _ (is_of c.args.kinds) _ (λ x b f' k. search rules) _ _ c.retain.ensures.filtered
