use Rattle.std.proofs.Common.{◌∙◌, refl, sym, ap, subst, List, [], ◌∷◌, ◌++◌, map, Bor, ℕ, None}
use Rattle.std.specs.List.Sorted.{IsPermutation}
use Rattle.std.proofs.lemmas.Iterator.Consumers.{YieldsList-from_first, YieldsList-end}
use Rattle.std.proofs.lemmas.List.{map_push}
use Rattle.std.proofs.lemmas.List.Sorted.{IsPermutation-map}
use Rattle.guppy.specs.Iterators.{packages_left, packages_of}
use Rattle.guppy.specs.Views.{graph_packages, package_position, package_seen}
use Rattle.guppy_arguments.specs.Names.{name_of}
use Rattle.guppy_cargo.proofs.PackageNames.{name_seen, name_at, names_seen}
use Rattle.guppy_cargo.proofs.unknown.names_in.Goals as goal

pub loop-package-preserved : goal.loop-package-preserved
loop-package-preserved c =
    let here = c.in-Some.package in
    let yielded = c.loop-package.yielded in
    let name = c.name.result in
    let own = name_at (graph_packages here) (package_position here) name.now c.name.ensures in
    ap (map (λ (n : Bor (List ℕ)). n.now)) c.in_ok-push.ensures.items
    ∙ (map_push (λ (n : Bor (List ℕ)). n.now) c.loop-package.names.items name
    ∙ (ap (λ names. names ++ name.now ∷ []) c.loop-package.invariant
    ∙ (ap (λ n. map name_seen (map package_seen yielded) ++ n ∷ []) (sym own)
    ∙ (sym (map_push name_seen (map package_seen yielded) (package_seen here))
    ∙ ap (map name_seen) (sym (map_push package_seen yielded here))))))

pub returns : goal.returns
returns c =
    let g = c.args.graph in
    let gave = rw c.into_iter-package-iterator.ensures.into_iter_gives at c.loop-package.yielded_by in
    let items = c.packages-package-items.result in
    let road = YieldsList-from_first package_seen packages_left {s = items} (packages_left items) refl in
    let given = (YieldsList-end road c.loop-package.yielded c.loop-package.package-iterator gave None c.next.new.self refl c.in-None.ensures.steps).0 in
    let names = c.loop-package.invariant ∙ ap (map name_seen) given in
    subst (λ (all : List (List ℕ)). IsPermutation (map name_of g.now.packages) all) (sym names)
    (subst (λ (all : List (List ℕ)). IsPermutation all (map name_seen (packages_left items))) (names_seen g)
    (IsPermutation-map name_seen (packages_of g) (packages_left items) c.packages-package-items.ensures))
