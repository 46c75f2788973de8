use Rattle.guppy.specs.Views.{package_data}
use Rattle.guppy_dot.specs.Dot.{IsNode, node_shown}
use Rattle.guppy_dot.proofs.Drawings.{fits_push}
use Rattle.guppy_dot.proofs.drawing.nodes_of.Goals as goal

pub loop-metadata-preserved : goal.loop-metadata-preserved
loop-metadata-preserved c =
    fits_push IsNode package_data node_shown c.loop-metadata.yielded c.loop-metadata.nodes.items c.push.new.self.items c.in-Some.metadata c.node_of.result
    c.in_ok-push.ensures.items c.loop-metadata.invariant c.node_of.ensures
