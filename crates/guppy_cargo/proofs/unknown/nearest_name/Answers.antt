use Rattle.std.proofs.Common.{List, ℕ, Bor, map, sym, subst}
use Rattle.std.specs.List.Sorted.{IsPermutation}
use Rattle.std.proofs.lemmas.Result.{IfOk-weaker}
use Rattle.guppy_arguments.specs.Names.{name_of}
use Rattle.guppy_cargo.proofs.PackageNames.{nearest_among}
use Rattle.guppy_cargo.proofs.unknown.nearest_name.Goals as goal

pub returns : goal.returns
returns c =
    let packages = c.args.graph.now.packages in
    let names = c.as_slice.result.now in
    let all = subst (λ (ns : List (Bor (List ℕ))). IsPermutation (map name_of packages) (map (λ name. name.now) ns)) (sym c.as_slice.ensures.value) c.in_ok-names.ensures in
    IfOk-weaker c.nearest_of.result _ _ (nearest_among packages c.args.word.now (map (λ name. name.now) names) all) c.nearest_of.ensures
