use Rattle.std.proofs.Common.{sym, subst, List, [], ◌∷◌, ◌++◌, map, Contains, Bor, ℕ}
use Rattle.std.specs.Prelude.{◌↔◌}
use Rattle.std.proofs.lemmas.List.{map_push}
use Rattle.guppy_data.specs.Path.{Part, components}
use Rattle.guppy_data.specs.Utf8Path.{path_text}
use Rattle.guppy_graph.specs.Graph.{GraphData}
use Rattle.guppy.specs.Iterators.{packages_left}
use Rattle.guppy.specs.Views.{package_seen}
use Rattle.guppy_folders.specs.Folders.{lists_in}
use Rattle.guppy_folders.proofs.Elements.{One}
use Rattle.guppy_affected.proofs.Iterators.{all_given}
use Rattle.guppy_affected.proofs.Local.{HasFolder, folders_seen, with_more, with_none}
use Rattle.guppy_folders.proofs.Sets.{set_made}
use Rattle.guppy_affected.proofs.folders.all_folders.Goals as goal

pub loop-package-preserved-in-Continue-1 : goal.loop-package-preserved-in-Continue-1
loop-package-preserved-in-Continue-1 c = λ folder.
    let here = c.in-Some.package in
    let before = c.loop-package.folders.items in
    let yielded = c.loop-package.yielded in
    let own = path_text c.in-Some-folder_of.folder in
    let more = with_more (lists_in before) (map package_seen yielded) c.loop-package.invariant (package_seen here) own c.in-Some-folder_of.ensures folder in
    subst (λ (lists : List (List Part)). Contains lists folder ↔ One (map package_seen (yielded ++ here ∷ [])) (HasFolder folder)) (sym c.in_ok-add_folder.ensures.added)
    (subst (λ (seen : List (Bor GraphData × ℕ)). Contains (lists_in before ++ components own ∷ []) folder ↔ One seen (HasFolder folder)) (sym (map_push package_seen yielded here)) more)

pub loop-package-preserved : goal.loop-package-preserved
loop-package-preserved c = λ folder.
    let here = c.in-Some.package in
    let before = c.loop-package.folders.items in
    let yielded = c.loop-package.yielded in
    subst (λ (seen : List (Bor GraphData × ℕ)). Contains (lists_in before) folder ↔ One seen (HasFolder folder)) (sym (map_push package_seen yielded here))
    (with_none (lists_in before) (map package_seen yielded) c.loop-package.invariant (package_seen here) c.in_default.ensures folder)

pub returns : goal.returns
returns c = λ folder.
    let gave = rw c.into_iter-package-iterator.ensures.into_iter_gives at c.loop-package.yielded_by in
    let items = c.packages-package-items.result in
    let given = all_given package_seen packages_left items _ c.next.new.self _ gave c.in-None.ensures.steps in
    let seen = subst (λ (seen : List (Bor GraphData × ℕ)). Contains (lists_in c.loop-package.folders.items) folder ↔ One seen (HasFolder folder)) given (c.loop-package.invariant folder) in
    let made = set_made c.loop-package.folders.items c.new.result c.new.ensures.kept folder in
    let are = folders_seen c.args.graph (packages_left items) c.packages-package-items.ensures folder in
    (λ there. are.0 (seen.0 (made.0 there)), λ is. made.1 (seen.1 (are.1 is)))
