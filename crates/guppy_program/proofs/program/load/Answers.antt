use Rattle.std.proofs.Common.{List, sym, subst}
use Rattle.guppy_data.specs.declared.records.LinkRecord.{LinkRecord}
use Rattle.guppy_data.specs.declared.records.PackageRecord.{PackageRecord}
use Rattle.std.specs.Prelude.{IfOk, IfErr, OnOk}
use Rattle.std.proofs.lemmas.Result.{err_from_is_err_and}
use Rattle.guppy_graph.specs.Accepted.{IsAccepted}
use Rattle.guppy_graph.specs.Graph.{Holds}
use Rattle.guppy_graph.specs.Refused.{IsRefusal}
use Rattle.guppy_program.specs.Loaded.{AreAskedOf, IsLoadFault, counted_on}
use Rattle.guppy_command.specs.Shown.{asked_shown}
use Rattle.guppy_platforms.specs.Kept.{AreKept}
use Rattle.guppy_program.proofs.Runs.{OrMemory-holds}
use Rattle.guppy_program.proofs.program.load.Goals as goal

pub returns-in_err-graph-clause-err : goal.returns-in_err-graph-clause-err
returns-in_err-graph-clause-err g c =
    let passed_on = err_from_is_err_and c.from_residual-in_err-graph.result c.from_residual-in_err-graph.ensures.1 in
    let r = c.in_ok-records.records in
    let kept = c.keep_asked.new.links.items in
    let told = c.in_err-graph.ensures.err in
    let refused = subst (λ made. IfErr made (IsRefusal r.packages.items kept r.workspace)) told.1 c.into_graph.ensures.refused in
    rw (passed_on.1, passed_on.2) (subst (IsLoadFault g.F.Format.format (asked_shown c.args.asked.now) c.args.input.now c.in_err-graph.field-0.0) (sym told.2) (OrMemory-holds told.0 (record {
      packages = r.packages.items;
      links = r.links.items;
      workspace = r.workspace;
      said = subst (λ details. g.F.Format.format.says details c.args.input.now r.packages.items r.links.items r.workspace) c.details_for.ensures c.in_ok-records.ensures.said;
      counting = c.keep_counted.new.links.items;
      counted = subst (λ (packages : List PackageRecord). AreKept (counted_on (asked_shown c.args.asked.now)) (asked_shown c.args.asked.now).host packages r.links.items c.keep_counted.new.links.items) c.as_slice.ensures.value c.in_ok-keep_counted.ensures.ok;
      asked_links = kept;
      are_asked = subst (λ (links : List LinkRecord). AreAskedOf g.F.Format.format (asked_shown c.args.asked.now).command c.args.input.now links kept) c.keep_links.ensures c.in_ok-keep_asked.ensures.ok;
      holds = refused;
    })))

pub returns-in_err-keep_asked-clause-err : goal.returns-in_err-keep_asked-clause-err
returns-in_err-keep_asked-clause-err g c =
    let passed_on = err_from_is_err_and c.from_residual-in_err-keep_asked.result c.from_residual-in_err-keep_asked.ensures.1 in
    rw (passed_on.1, passed_on.2) (subst (IsLoadFault g.F.Format.format (asked_shown c.args.asked.now) c.args.input.now c.in_err-keep_asked.field-0.0) (sym c.in_err-keep_asked.ensures.err) tt)

pub returns-clause-ok : goal.returns-clause-ok
returns-clause-ok g c =
    let r = c.in_ok-records.records in
    let kept = c.keep_asked.new.links.items in
    let graph = c.in_ok-graph.graph in
    record {
      packages = r.packages.items;
      links = r.links.items;
      workspace = r.workspace;
      said = subst (λ details. g.F.Format.format.says details c.args.input.now r.packages.items r.links.items r.workspace) c.details_for.ensures c.in_ok-records.ensures.said;
      counting = c.keep_counted.new.links.items;
      counted = subst (λ (packages : List PackageRecord). AreKept (counted_on (asked_shown c.args.asked.now)) (asked_shown c.args.asked.now).host packages r.links.items c.keep_counted.new.links.items) c.as_slice.ensures.value c.in_ok-keep_counted.ensures.ok;
      asked_links = kept;
      are_asked = subst (λ (links : List LinkRecord). AreAskedOf g.F.Format.format (asked_shown c.args.asked.now).command c.args.input.now links kept) c.keep_links.ensures c.in_ok-keep_asked.ensures.ok;
      holds = (
        subst (λ made. OnOk made (IsAccepted r.packages.items kept r.workspace)) c.in_ok-graph.ensures.ok c.into_graph.ensures.accepted,
        subst (λ made. IfOk made (λ h. Holds h r.packages.items kept r.workspace)) c.in_ok-graph.ensures.ok c.into_graph.ensures.holds,
      );
    }

pub returns-in_err-keep_counted-clause-err : goal.returns-in_err-keep_counted-clause-err
returns-in_err-keep_counted-clause-err g c =
    let passed_on = err_from_is_err_and c.from_residual-in_err-keep_counted.result c.from_residual-in_err-keep_counted.ensures.1 in
    rw (passed_on.1, passed_on.2) (subst (IsLoadFault g.F.Format.format (asked_shown c.args.asked.now) c.args.input.now c.in_err-keep_counted.field-0.0) (sym c.in_err-keep_counted.ensures.err) tt)
