use Rattle.std.proofs.Common.{◌≡◌, ◌++◌, subst, Bor}
use Rattle.std.proofs.lemmas.Result.{on_ok_weaker}
use Rattle.std.specs.Prelude.{slice_get, IsSomeAnd}
use Rattle.json.specs.Tree.{json_tokens}
use Rattle.guppy_graph.specs.Graph.{GraphData}
use Rattle.guppy.specs.Views.{package_position}
use Rattle.guppy_print.specs.Objects.{object_of}
use Rattle.guppy_print.proofs.WrittenObjects.{known_written, unknown_written}
use Rattle.guppy_print.proofs.objects.RefPackageIdToJson.write_to.Goals as goal

pub returns-clause-tokens : goal.returns-clause-tokens
returns-clause-tokens c =
    let packages = c.args.graph.now.packages in
    let p = package_position c.in-Ok.metadata in
    let found = c.in-Ok.ensures.found in
    let before = c.args.writer.now.tokens in
    let after = c.push_known.new.writer.tokens in
    on_ok_weaker c.push_known.result (λ told. known_written packages c.requires c.args.self.now.now p found.1 before after
    (subst (λ (graph : Bor GraphData). IsSomeAnd (slice_get graph.now.packages p) (λ r. after ≡ before ++ json_tokens (object_of r))) found.0 told))
    c.push_known.ensures.tokens

pub returns-in_default-clause-tokens : goal.returns-in_default-clause-tokens
returns-in_default-clause-tokens c =
    let packages = c.args.graph.now.packages in
    on_ok_weaker c.null.result (λ told. unknown_written packages c.args.self.now.now (λ known. let no = c.in_default.ensures.known known in absurd (cc no)) c.args.writer.now.tokens c.null.new.self.tokens told) c.null.ensures.ok
