use Rattle.std.proofs.Common.{refl, sym, subst, map}
use Rattle.std.specs.Prelude.{All}
use Rattle.guppy_graph.specs.Graph.{GraphData}
use Rattle.guppy_graph.specs.Ids.{IsKnown}
use Rattle.guppy_built.specs.Asked.{choice_of}
use Rattle.guppy_built.specs.Refused.{IsBuiltFault}
use Rattle.guppy_built.specs.Rows.{AreBuilt, row_of}
use Rattle.guppy_command.specs.Command.{built}
use Rattle.guppy_command.specs.Shown.{asked_shown, request_shown}
use Rattle.guppy_program.specs.Builds.{places_of}
use Rattle.guppy_print.specs.Printed.{called}
use Rattle.guppy_program.proofs.RefusedBuilds.{request_told}
use Rattle.guppy_program.proofs.builds.built_of.Goals as goal

pub built_packages-requires : goal.built_packages-requires
built_packages-requires g c =
    subst (λ (graph : GraphData). All (IsKnown graph.packages) c.question_of-question.result.members.now) (sym c.records.ensures)
    (subst (All (IsKnown c.args.graph.now.packages)) (sym c.question_of-question.ensures.members) c.requires.known)

pub returns-in-Ok-clause-ok : goal.returns-in-Ok-clause-ok
returns-in-Ok-clause-ok g c =
    let packages = c.args.graph.now.packages in
    record {
      choice = choice_of c.question_of-question.result;
      chosen = c.question_of-question.ensures.chosen c.args.graph.now (g.F.Format.format.meant packages) c.requires.named c.requires.known;
      rows = map row_of c.in-Ok.rows.items;
      exact = subst (λ (graph : GraphData). AreBuilt graph (choice_of c.question_of-question.result) (map row_of c.in-Ok.rows.items)) c.records.ensures c.in-Ok.ensures.ok;
      told = refl;
    }

pub returns-in-Err-clause-err : goal.returns-in-Err-clause-err
returns-in-Err-clause-err g c =
    let format = g.F.Format.format in
    let graph = c.args.graph.now in
    let meant = format.meant graph.packages in
    let places = places_of (asked_shown c.args.asked.now) in
    let call = called c.args.asked.now.options (format.text graph.packages) in
    let request = request_shown c.args.request.now in
    let choice = choice_of c.question_of-question.result in
    let chosen = c.question_of-question.ensures.chosen graph meant c.requires.named c.requires.known in
    let is = subst (λ (graph : GraphData). IsBuiltFault graph choice c.in-Err.fault) c.records.ensures c.in-Err.ensures.err in
    request_told format places call graph request (built request) (λ why told. told) _ _ (c.fault_of.ensures places graph choice c.requires.names chosen is)
