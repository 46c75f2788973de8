use Rattle.std.proofs.Common.{arith, ap}
use Rattle.std.specs.List.{flat_map}
use Rattle.std.proofs.lemmas.List.Splits.{slice_split_first}
use Rattle.guppy_data.specs.Path.{is_slash, part_of}
use Rattle.guppy_data.proofs.Cuts.{slice_split-uncut}
use Rattle.guppy_data.proofs.texts.component.Components.piece.Goals as goal

pub returns-in-Some-clause-cut : goal.returns-in-Some-clause-cut
returns-in-Some-clause-cut c =
    let cut = c.in-Some.ensures.byte (omega arith) (λ w o h. h) in
    rw (cut.0, cut.1) (ap (flat_map part_of) (slice_split_first is_slash c.args.self.now.rest.now 0 cut.2))

pub returns-in-None-clause-cut : goal.returns-in-None-clause-cut
returns-in-None-clause-cut c =
    ap (flat_map part_of) (slice_split-uncut is_slash c.args.self.now.rest.now (c.in-None.ensures.byte (omega arith) (λ w o h. h)))
