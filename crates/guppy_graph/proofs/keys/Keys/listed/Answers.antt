use Rattle.std.specs.Option.{option_copied}
use Rattle.guppy_graph.proofs.Lists.{each_image}
use Rattle.guppy_graph.proofs.keys.Keys.listed.Goals as goal

pub invariant_of-result : goal.invariant_of-result
invariant_of-result g c =
    record { own = each_image option_copied g.K.Key.text_of c.args.texts.now c.args.packages.now c.requires }
