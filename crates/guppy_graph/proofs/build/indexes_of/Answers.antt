use Rattle.std.proofs.Common.{◌≤◌, [], length}
use Rattle.std.proofs.lemmas.Result.{err_from_is_err_and}
use Rattle.guppy_search.proofs.Exits.{if_ok, on_ok}
use Rattle.guppy_graph.specs.Accepted.{distinct_ids, distinct_targets, named_targets, distinct_paths, distinct_names, known_members}
use Rattle.guppy_graph.proofs.Rules.{after_count, after_ids, after_targets, after_named, after_paths, after_names, after_members, refused, packages_accepted}
use Rattle.guppy_graph.proofs.build.indexes_of.Goals as goal

pub returns-in_err-by_id-clause-made : goal.returns-in_err-by_id-clause-made
returns-in_err-by_id-clause-made c = if_ok _ _ c.from_residual.ensures.0

pub returns-in_err-by_id-clause-accepted : goal.returns-in_err-by_id-clause-accepted
returns-in_err-by_id-clause-accepted c = on_ok _ _ c.from_residual.ensures.0

pub returns-in_err-by_id-clause-refused : goal.returns-in_err-by_id-clause-refused
returns-in_err-by_id-clause-refused c =
    let packages = c.args.ids.now.packages.now in
    let workspace = c.args.workspace.now in
    let few : length packages ≤ 4294967295 = c.requires in
    let p = err_from_is_err_and c.from_residual.result c.from_residual.ensures.1 in
    rw (p.1, p.2) (λ links. refused packages links workspace distinct_ids (after_count packages links workspace few) _ c.in_err-by_id.ensures.refused)

pub returns-in_err-by_target-clause-made : goal.returns-in_err-by_target-clause-made
returns-in_err-by_target-clause-made c = if_ok _ _ c.from_residual-in_err-by_target.ensures.0

pub returns-in_err-by_target-clause-accepted : goal.returns-in_err-by_target-clause-accepted
returns-in_err-by_target-clause-accepted c = on_ok _ _ c.from_residual-in_err-by_target.ensures.0

pub returns-in_err-by_target-clause-refused : goal.returns-in_err-by_target-clause-refused
returns-in_err-by_target-clause-refused c =
    let packages = c.args.ids.now.packages.now in
    let workspace = c.args.workspace.now in
    let few : length packages ≤ 4294967295 = c.requires in
    let p = err_from_is_err_and c.from_residual-in_err-by_target.result c.from_residual-in_err-by_target.ensures.1 in
    rw (p.1, p.2) (λ links. refused packages links workspace distinct_targets (after_ids packages links workspace few c.in_ok-by_id.ensures.accepted) _ c.in_err-by_target.ensures.refused)

pub returns-in_err-check_target_names-clause-made : goal.returns-in_err-check_target_names-clause-made
returns-in_err-check_target_names-clause-made c = if_ok _ _ c.from_residual-in_err-check_target_names.ensures.0

pub returns-in_err-check_target_names-clause-accepted : goal.returns-in_err-check_target_names-clause-accepted
returns-in_err-check_target_names-clause-accepted c = on_ok _ _ c.from_residual-in_err-check_target_names.ensures.0

pub returns-in_err-check_target_names-clause-refused : goal.returns-in_err-check_target_names-clause-refused
returns-in_err-check_target_names-clause-refused c =
    let packages = c.args.ids.now.packages.now in
    let workspace = c.args.workspace.now in
    let few : length packages ≤ 4294967295 = c.requires in
    let p = err_from_is_err_and c.from_residual-in_err-check_target_names.result c.from_residual-in_err-check_target_names.ensures.1 in
    rw (p.1, p.2) (λ links. refused packages links workspace named_targets (after_targets packages links workspace few c.in_ok-by_id.ensures.accepted c.in_ok-by_target.ensures.accepted) _ c.in_err-check_target_names.ensures.refused)

pub returns-in_err-by_path-clause-made : goal.returns-in_err-by_path-clause-made
returns-in_err-by_path-clause-made c = if_ok _ _ c.from_residual-in_err-by_path.ensures.0

pub returns-in_err-by_path-clause-accepted : goal.returns-in_err-by_path-clause-accepted
returns-in_err-by_path-clause-accepted c = on_ok _ _ c.from_residual-in_err-by_path.ensures.0

pub returns-in_err-by_path-clause-refused : goal.returns-in_err-by_path-clause-refused
returns-in_err-by_path-clause-refused c =
    let packages = c.args.ids.now.packages.now in
    let workspace = c.args.workspace.now in
    let few : length packages ≤ 4294967295 = c.requires in
    let p = err_from_is_err_and c.from_residual-in_err-by_path.result c.from_residual-in_err-by_path.ensures.1 in
    rw (p.1, p.2) (λ links. refused packages links workspace distinct_paths (after_named packages links workspace few c.in_ok-by_id.ensures.accepted c.in_ok-by_target.ensures.accepted c.in_ok-check_target_names.ensures.accepted) _ c.in_err-by_path.ensures.refused)

pub returns-in_err-by_name-clause-made : goal.returns-in_err-by_name-clause-made
returns-in_err-by_name-clause-made c = if_ok _ _ c.from_residual-in_err-by_name.ensures.0

pub returns-in_err-by_name-clause-accepted : goal.returns-in_err-by_name-clause-accepted
returns-in_err-by_name-clause-accepted c = on_ok _ _ c.from_residual-in_err-by_name.ensures.0

pub returns-in_err-by_name-clause-refused : goal.returns-in_err-by_name-clause-refused
returns-in_err-by_name-clause-refused c =
    let packages = c.args.ids.now.packages.now in
    let workspace = c.args.workspace.now in
    let few : length packages ≤ 4294967295 = c.requires in
    let p = err_from_is_err_and c.from_residual-in_err-by_name.result c.from_residual-in_err-by_name.ensures.1 in
    rw (p.1, p.2) (λ links. refused packages links workspace distinct_names (after_paths packages links workspace few c.in_ok-by_id.ensures.accepted c.in_ok-by_target.ensures.accepted c.in_ok-check_target_names.ensures.accepted c.in_ok-by_path.ensures.accepted) _ c.in_err-by_name.ensures.refused)

pub returns-in_err-check_members-clause-made : goal.returns-in_err-check_members-clause-made
returns-in_err-check_members-clause-made c = if_ok _ _ c.from_residual-in_err-check_members.ensures.0

pub returns-in_err-check_members-clause-accepted : goal.returns-in_err-check_members-clause-accepted
returns-in_err-check_members-clause-accepted c = on_ok _ _ c.from_residual-in_err-check_members.ensures.0

pub returns-in_err-check_members-clause-refused : goal.returns-in_err-check_members-clause-refused
returns-in_err-check_members-clause-refused c =
    let packages = c.args.ids.now.packages.now in
    let workspace = c.args.workspace.now in
    let few : length packages ≤ 4294967295 = c.requires in
    let p = err_from_is_err_and c.from_residual-in_err-check_members.result c.from_residual-in_err-check_members.ensures.1 in
    rw (p.1, p.2) (λ links. refused packages links workspace known_members (after_names packages links workspace few c.in_ok-by_id.ensures.accepted c.in_ok-by_target.ensures.accepted c.in_ok-check_target_names.ensures.accepted c.in_ok-by_path.ensures.accepted c.in_ok-by_name.ensures.accepted) _ (rw c.as_slice-members.ensures.value at c.in_err-check_members.ensures.refused))

pub returns-in_err-hints : goal.returns-in_err-hints
returns-in_err-hints c =
    let failed = c.from_residual-in_err-hints.ensures in
    let p = err_from_is_err_and c.from_residual-in_err-hints.result failed.1 in
    record { made = if_ok _ _ failed.0; accepted = on_ok _ _ failed.0; refused = rw (p.1, p.2) (λ links. tt) }

pub returns-clause-made : goal.returns-clause-made
returns-clause-made c =
    record { by_id = c.in_ok-by_id.ensures.made; by_path = c.in_ok-by_path.ensures.made; by_name = c.in_ok-by_name.ensures.made; by_target = c.in_ok-by_target.ensures.made }

pub returns-clause-accepted : goal.returns-clause-accepted
returns-clause-accepted c =
    let packages = c.args.ids.now.packages.now in
    let workspace = c.args.workspace.now in
    let few : length packages ≤ 4294967295 = c.requires in
    packages_accepted packages workspace (after_members packages [] workspace
    (after_names packages [] workspace few c.in_ok-by_id.ensures.accepted c.in_ok-by_target.ensures.accepted c.in_ok-check_target_names.ensures.accepted c.in_ok-by_path.ensures.accepted c.in_ok-by_name.ensures.accepted)
    (rw c.as_slice-members.ensures.value at c.in_ok-check_members.ensures.accepted))
