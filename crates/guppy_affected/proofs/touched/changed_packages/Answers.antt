use Rattle.std.proofs.Common.{◌∙◌, ap, map, string_bytes}
use Rattle.guppy_affected.specs.Changed.{AreChanged}
use Rattle.guppy_affected.specs.Folders.{given_in}
use Rattle.guppy_folders.specs.Folders.{lists_in}
use Rattle.guppy_affected.proofs.Iterators.{IfOk-along}
use Rattle.guppy_affected.proofs.Owners.{changed_all, changed_some}
use Rattle.guppy_affected.proofs.Targets.{lists_lead}
use Rattle.guppy_affected.proofs.touched.changed_packages.Goals as goal

pub returns-in-Some-clause-changed : goal.returns-in-Some-clause-changed
returns-in-Some-clause-changed c =
    let g = c.args.graph.now in
    let paths = map string_bytes c.args.paths.now in
    let ignored = map string_bytes c.args.ignored.now in
    let also = given_in c.args.also.now in
    let longest = rw c.in-Some.is at c.in_ok-touched.ensures in
    let counted = lists_in c.in_ok-counted-in-Some.counted in
    let places = lists_in c.as_slice.result.now in
    let lead = lists_lead g.workspace.root paths ignored counted places c.in_ok-counted-in-Some.ensures (ap lists_in c.as_slice.ensures.value ∙ c.in_ok-places-in-Some.ensures) in
    IfOk-along c.packages_changed.result _ (λ set. AreChanged g paths ignored also set.included)
    (λ set where_changed. changed_some g (lists_in c.in_ok-folders.folders) c.in_ok-folders.ensures paths ignored also set.included (lists_in c.in-Some.touched) counted places longest c.in_ok-counted-in-Some.ensures lead where_changed) c.packages_changed.ensures.members

pub returns-clause-changed : goal.returns-clause-changed
returns-clause-changed c =
    let g = c.args.graph.now in
    let paths = map string_bytes c.args.paths.now in
    let ignored = map string_bytes c.args.ignored.now in
    let also = given_in c.args.also.now in
    let outside = rw c.in-None.is at c.in_ok-touched.ensures in
    IfOk-along c.resolve_workspace.result _ (λ set. AreChanged g paths ignored also set.included)
    (λ set where_members. changed_all g (lists_in c.in_ok-folders.folders) c.in_ok-folders.ensures paths ignored also set.included outside where_members) c.resolve_workspace.ensures.members
