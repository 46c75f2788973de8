use Rattle.std.proofs.Common.{◌∙◌, Bor, Vec, Global, map, ap, sym, subst}
use Rattle.std.specs.Prelude.{option_map}
use Rattle.std.specs.List.{AllZip}
use Rattle.std.proofs.lemmas.List.{map_push}
use Rattle.guppy_data.specs.declared.records.PackageRecord.{PackageRecord}
use Rattle.guppy_builds.specs.Building.{builds}
use Rattle.guppy_built.specs.Rows.{IsRow, has_row, row_of}
use Rattle.guppy_built.specs.declared.rows.BuiltPackage.{BuiltPackage}
use Rattle.guppy_built.proofs.Seen.{filtered_less, filtered_more, given_where, not_given}
use Rattle.guppy_built.proofs.rows.Rows.rows_of.Goals as goal
use Rattle.guppy_built.proofs.rows.Rows.rows_of.Goals.{in-Some+in_ok-row_of+in_ok-push, in_default}

pub loop-build-preserved : goal.loop-build-preserved
loop-build-preserved c members =
    let test = has_row c.args.self.graph.now in
    let R = IsRow (builds c.args.self.set.now members) in
    let built = c.args.built.now in
    let i = c.loop-build.build-index in
    let below = c.loop-build-test.true in
    let rows = c.loop-build.rows.items in
    let seen = λ (r : Bor PackageRecord). r.now in
    elim c.match-package_of.branch [
      | in-Some+in_ok-row_of+in_ok-push w ↦
          let given = given_where _ _ _ (sym (ap (option_map seen) w.in-Some.is) ∙ c.package_of.ensures) in
          let row = w.in_ok-row_of.field-0 in
          let pushed = ap (λ (rows : Vec BuiltPackage Global). map row_of rows.items) w.rows-is ∙ ap (map row_of) w.in_ok-push.ensures.items ∙ map_push row_of rows row in
          subst (AllZip R _) (sym pushed) (filtered_more R test built (map row_of rows) i _ (row_of row) below (c.loop-build.invariant members) given.0 (w.in_ok-row_of.ensures members))
      | in_default w ↦
          let same = ap (λ (rows : Vec BuiltPackage Global). map row_of rows.items) w.rows-is in
          subst (AllZip R _) (sym same) (filtered_less R test built (map row_of rows) i _ below (c.loop-build.invariant members) (not_given _ _ (sym (ap (option_map seen) w.in_default.is) ∙ c.package_of.ensures)))
    ]
