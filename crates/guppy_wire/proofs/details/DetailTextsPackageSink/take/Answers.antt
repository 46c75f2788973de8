use Rattle.std.proofs.Common.{◌∷◌, [], ◌++◌, sym, subst}
use Rattle.guppy_wire.specs.Wire.{AreAllDetails}
use Rattle.guppy_wire.proofs.AllDetails.{one_more}
use Rattle.guppy_wire.proofs.details.DetailTextsPackageSink.take.Goals as goal

pub returns-clause-took : goal.returns-clause-took
returns-clause-took c shown left are =
    let own = c.in_ok-push.ensures in
    subst (AreAllDetails (shown ++ c.args.package.now ∷ [])) (sym own.2) (one_more shown _ own.0 c.args.package.now are own.1)
