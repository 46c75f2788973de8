use Rattle.guppy_extras.specs.Sorted.{record_of}
use Rattle.guppy_extras.proofs.NameOrder.{compared}
use Rattle.guppy_extras.proofs.namesakes.compare.Goals as goal

pub returns : goal.returns
returns c =
    rw (c.then-2.ensures, c.then.ensures, c.cmp.ensures, c.cmp_precedence.ensures, c.cmp-2.ensures)
    (compared (record_of c.args.a.now) (record_of c.args.b.now) _ _ _ _ _ _ c.name.ensures c.name-2.ensures c.version.ensures c.version-2.ensures c.id.ensures c.id-2.ensures)
