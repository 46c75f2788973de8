use Rattle.std.proofs.Common.{rules, ◌∙◌, ap, slice_get, option_and_then}
use Rattle.guppy_metadata.proofs.Positions.{found_at, read_at}
use Rattle.guppy_metadata.proofs.link.Packages.with_id.Goals as goal

pub returns-in_err-position : goal.returns-in_err-position
returns-in_err-position c =
    let found = found_at c.args.self.packages.now c.args.self.positions.now c.requires c.args.id.now in search rules

pub returns : goal.returns
returns c =
    let packages = c.args.self.packages.now in
    read_at packages c.in_ok-position.position.now c.get-2.result _ c.get-2.ensures.lookup.1 c.get-2.ensures.lookup.3 ∙ (ap (option_and_then (slice_get packages)) c.in_ok-position.ensures.value ∙ found_at packages c.args.self.positions.now c.requires c.args.id.now)
