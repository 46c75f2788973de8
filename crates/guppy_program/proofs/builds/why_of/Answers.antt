use Rattle.std.proofs.Common.{⊎_elim, refl, sym, subst, map}
use Rattle.std.specs.Prelude.{All}
use Rattle.guppy_graph.specs.Graph.{GraphData}
use Rattle.guppy_graph.specs.Ids.{IsKnown}
use Rattle.guppy_built.specs.Asked.{choice_of}
use Rattle.guppy_built.specs.Names.{step_shown}
use Rattle.guppy_built.specs.Why.{IsWhy, IsWhyFault}
use Rattle.guppy_built.specs.declared.fault.BuiltFault.TheVariants.{FeatureOff}
use Rattle.guppy_command.specs.Command.{why_feature}
use Rattle.guppy_command.specs.Shown.{asked_shown, request_shown}
use Rattle.guppy_program.specs.Answer.{IsFaultOn}
use Rattle.guppy_program.specs.Builds.{places_of}
use Rattle.guppy_print.specs.Printed.{called}
use Rattle.guppy_program.proofs.RefusedBuilds.{built_told, feature_told, request_told}
use Rattle.guppy_program.proofs.builds.why_of.Goals as goal

pub why_feature-requires-clause-members : goal.why_feature-requires-clause-members
why_feature-requires-clause-members g c =
    subst (λ (graph : GraphData). All (IsKnown graph.packages) c.question_of-question.result.members.now) (sym c.records.ensures)
    (subst (All (IsKnown c.args.graph.now.packages)) (sym c.question_of-question.ensures.members) c.requires.known)

pub returns-in-Ok-clause-ok : goal.returns-in-Ok-clause-ok
returns-in-Ok-clause-ok g c =
    let packages = c.args.graph.now.packages in
    record {
      choice = choice_of c.question_of-question.result;
      chosen = c.question_of-question.ensures.chosen c.args.graph.now (g.F.Format.format.meant packages) c.requires.named c.requires.known;
      id = c.args.id.now;
      is_meant = c.requires.is_meant;
      steps = map step_shown c.in-Ok.steps.items;
      exact = subst (λ (graph : GraphData). IsWhy graph (choice_of c.question_of-question.result) c.args.id.now c.args.name.now (map step_shown c.in-Ok.steps.items)) c.records.ensures c.in-Ok.ensures.ok;
      told = refl;
    }

pub returns-in_default-clause-err : goal.returns-in_default-clause-err
returns-in_default-clause-err g c =
    let format = g.F.Format.format in
    let graph = c.args.graph.now in
    let meant = format.meant graph.packages in
    let places = places_of (asked_shown c.args.asked.now) in
    let call = called c.args.asked.now.options (format.text graph.packages) in
    let request = request_shown c.args.request.now in
    let choice = choice_of c.question_of-question.result in
    let chosen = c.question_of-question.ensures.chosen graph meant c.requires.named c.requires.known in
    let is = subst (λ (graph : GraphData). IsWhyFault graph choice c.args.id.now c.args.name.now c.in-Err.fault) c.records.ensures c.in-Err.ensures.err in
    let built = built_told graph choice c.args.id.now c.args.name.now c.in-Err.fault c.in_default.not-LacksFeature c.in_default.not-FeatureOff is in
    request_told format places call graph request (why_feature request c.args.word.now c.args.name.now) (feature_told places call graph meant request c.args.word.now c.args.name.now) _ _ (c.fault_of.ensures places graph choice c.requires.names chosen built)

pub returns-in-FeatureOff-clause-err : goal.returns-in-FeatureOff-clause-err
returns-in-FeatureOff-clause-err g c =
    let format = g.F.Format.format in
    let packages = c.args.graph.now.packages in
    let call = called c.args.asked.now.options (format.text packages) in
    let word = c.args.word.now in
    let name = c.args.name.now in
    let P = IsFaultOn format (places_of (asked_shown c.args.asked.now)) call (why_feature (request_shown c.args.request.now) word name) c.args.graph.now c.feature_off.result in
    let off = subst (λ (graph : GraphData). IsWhyFault graph (choice_of c.question_of-question.result) c.args.id.now c.args.name.now (FeatureOff)) c.records.ensures (subst (IsWhyFault c.records.result.now (choice_of c.question_of-question.result) c.args.id.now c.args.name.now) c.in-FeatureOff.is c.in-Err.ensures.err) in
    ⊎_elim
    (λ told. subst P (sym told) (
      refl,
      refl,
      record {
        choice = choice_of c.question_of-question.result;
        chosen = c.question_of-question.ensures.chosen c.args.graph.now (format.meant packages) c.requires.named c.requires.known;
        id = c.args.id.now;
        is_meant = c.requires.is_meant;
        off = off;
      },
    ))
    (λ told. subst P (sym told) tt) c.feature_off.ensures
