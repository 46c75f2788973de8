use Rattle.std.proofs.Common.{map, subst, sym}
use Rattle.guppy_data.specs.Utf8Path.{path_text}
use Rattle.guppy_graph.specs.Members.{HasPath}
use Rattle.guppy.specs.Query.{IsSetOfNamed, SetData}
use Rattle.guppy.proofs.package_graph.graph.PackageGraph.query_workspace_paths.Goals as goal

pub returns-clause-initials : goal.returns-clause-initials
returns-clause-initials g c =
    let packages = c.args.self.now.packages in
    let members = c.in_ok-initials.ensures.members in
    (members.0, members.1, subst (λ (s : SetData). IsSetOfNamed (HasPath packages) packages (map path_text members.0) s.included) (sym c.forward_from.ensures.initials) members.2)
