use Rattle.guppy.proofs.Names.{lookup-tells_Contains}
use Rattle.guppy.proofs.metadata.PackageMetadata.has_default_feature.Goals as goal

pub returns : goal.returns
returns c = rw c.record.ensures (lookup-tells_Contains c.record.result.now.named_features.entries _ c.contains_key.result c.contains_key.ensures)
