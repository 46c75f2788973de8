use Rattle.std.proofs.Common.{subst, List, length}
use Rattle.std.specs.Prelude.{MatchOption}
use Rattle.std.specs.Ordering.{nat_cmp}
use Rattle.std.specs.Cmp.Lexicographic.{slice_cmp}
use Rattle.guppy_data.specs.declared.records.PackageRecord.{PackageRecord}
use Rattle.guppy_graph.specs.Keys.{HasKey, NoneBelow, IsFirstWith}
use Rattle.guppy_graph.specs.Members.{name_at, HasName}
use Rattle.guppy_graph.proofs.Lists.{MatchOption-along}
use Rattle.guppy_graph.proofs.KeyIndexes.{NoneBelow-along, exact_there, exact_back}
use Rattle.guppy_graph.proofs.Membership.{no_member_name}
use Rattle.guppy_graph.proofs.keys.position_of_name.Goals as goal

pub returns : goal.returns
returns c =
    let packages = c.args.packages.now in
    let name = c.args.name.now in
    let Has = λ (ps : List PackageRecord). HasKey (slice_cmp nat_cmp) (name_at ps) in
    MatchOption-along _ _ _ _ _
    (λ none. no_member_name packages name (NoneBelow-along (Has packages) (HasName packages) (exact_there (name_at packages)) (exact_back (name_at packages)) name (length packages) none))
    (λ p first. exact_there (name_at packages) name p first.0)
    (subst (λ ps. MatchOption c.position_of.result (NoneBelow (Has ps) name (length ps)) (IsFirstWith (Has ps) name)) c.new-names.ensures c.position_of.ensures)
