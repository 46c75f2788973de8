use Rattle.std.proofs.Common.{◌≡◌, map}
use Rattle.std.proofs.lemmas.Result.{on_ok_weaker}
use Rattle.guppy_features.specs.Dependencies.{seen_dependency, dependencies}
use Rattle.guppy_features.specs.Adding.{Adds, OfSome}
use Rattle.guppy_features.proofs.Adding.{adds_then}
use Rattle.guppy_builds.specs.Building.{question_of}
use Rattle.guppy_builds.specs.Parts.{OfDependency}
use Rattle.guppy_builds.proofs.building.Building.add_package_at.Goals as goal

pub returns : goal.returns
returns c =
    let all : map seen_dependency c.args.dependencies.now ≡ dependencies c.args.self.asked.graph.now c.args.position = c.requires.dependencies in
    let needed = rw all at c.add_dependencies.ensures in
    on_ok_weaker c.add_dependencies.result (λ (used : Adds (OfSome (dependencies c.args.self.asked.graph.now c.args.position) (OfDependency (question_of c.args.self) c.args.place)) c.add_macro.new.rules.items c.add_dependencies.new.rules.items). adds_then c.in_ok-add_macro.ensures used) needed
