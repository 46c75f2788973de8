use Rattle.std.proofs.Common.{◌<◌, List, length, map, sym, subst}
use Rattle.std.specs.Prelude.{◌↔◌, All, Contains}
use Rattle.std.specs.List.{AllZip, filter}
use Rattle.guppy_closure.specs.Relations.{HoldsBy}
use Rattle.guppy_graph.specs.Graph.{GraphData}
use Rattle.guppy_builds.specs.Building.{Builds, builds}
use Rattle.guppy_builds.specs.Follows.{BuildsFor}
use Rattle.guppy_builds.specs.declared.build.Build.{Build}
use Rattle.guppy_built.specs.Rows.{IsRow, has_row, row_of}
use Rattle.guppy_built.proofs.rows.rows_in.Goals as goal

pub new-requires : goal.new-requires
new-requires c = subst (λ (g : GraphData). All (λ m. m < length g.packages) c.args.members.now) (sym c.requires.graph) c.requires.within

pub returns-clause-ok : goal.returns-clause-ok
returns-clause-ok c =
    let members = c.args.members.now in
    let built = c.in_ok-builds-2.field-0.items in
    let rows = map row_of c.in_ok-rows_of.field-0.items in
    record {
      built = built;
      exact = subst (λ (b : Builds). (x : Build) → Contains built x ↔ HoldsBy (BuildsFor b.question b.members) x) c.in_ok-builds.ensures c.in_ok-builds-2.ensures.built;
      order = c.in_ok-builds-2.ensures.order;
      rows_are = subst (λ (g : GraphData). AllZip (IsRow (builds c.args.set.now members)) (filter (has_row g) built) rows) (sym c.requires.graph)
          (subst (λ (all : List Build). AllZip (IsRow (builds c.args.set.now members)) (filter (has_row c.args.graph.now) all) rows) c.as_slice.ensures.value (c.in_ok-rows_of.ensures members));
    }
