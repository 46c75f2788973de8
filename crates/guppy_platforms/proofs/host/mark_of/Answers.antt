use Rattle.std.proofs.Common.{map}
use Rattle.guppy_platforms.specs.HostClauses.{clauses_of}
use Rattle.guppy_platforms.proofs.HostFacts.{number_holds}
use Rattle.guppy_platforms.proofs.Numbers.{text_of, grown_clauses}
use Rattle.guppy_platforms.proofs.host.mark_of.Goals as goal

pub returns-clause-runs : goal.returns-clause-runs
returns-clause-runs c packages links same =
    let before = map text_of c.args.ids.now.keys in
    let after = map text_of c.number_of.new.ids.keys in
    let told = c.in_ok-number.ensures in
    let is = number_holds packages links after c.args.known.now told.apart (grown_clauses before after told.grows (clauses_of packages links) c.args.known.now same) c.args.link.now.from c.in_ok-number.number told.place in
    let holds = c.holds.ensures in
    (λ t. is.0 (holds.0 t), λ r. holds.1 (is.1 r))
