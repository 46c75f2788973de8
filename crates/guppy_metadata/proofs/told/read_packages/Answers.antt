use Rattle.std.proofs.Common.{[], ◌∷◌, ◌++◌, refl, sym, subst, arith}
use Rattle.indexmap.proofs.SetLemmas.{AllZip-push}
use Rattle.json.specs.Json.{array}
use Rattle.json.specs.Value.{items_of}
use Rattle.guppy_metadata.specs.Package.{IsParsedPackage}
use Rattle.guppy_metadata.specs.Told.{AreShown}
use Rattle.guppy_metadata.proofs.ShownPackages.{none_shown, one_shown}
use Rattle.guppy_metadata.proofs.Turns.{no_item_read, next_read, item_takes, list_told}
use Rattle.guppy_metadata.proofs.told.read_packages.Goals as goal

pub loop-alloc-init : goal.loop-alloc-init
loop-alloc-init g c = ([], [], no_item_read 126 _, tt, subst (AreShown g.P.PackageSink.took _ []) (sym c.new-2.ensures.items) (none_shown g.P.PackageSink.took _ c.new.ensures))

pub loop-alloc-preserved : goal.loop-alloc-preserved
loop-alloc-preserved g c =
    let l = c.loop-alloc in
    let were = l.invariant in
    let more = c.in_ok-read_package.ensures in
    let shown = c.in_ok-show_last.ensures l.shown.packages.items more.2 more.3 in (
      were.0 ++ more.0 ∷ [],
      were.1 ++ more.2 ∷ [],
      next_read 126 _ were.0 l.reader _ _ more.0 were.2 c.loop-alloc-test.ensures more.1,
      AllZip-push (IsParsedPackage c.args.details) _ _ _ _ were.3 more.4,
      subst (AreShown g.P.PackageSink.took _ (were.1 ++ more.2 ∷ [])) (sym shown.1)
          (one_shown g.P.PackageSink.took _ _ were.1 l.shown.packages.items more.2 shown.0 were.4 shown.2 shown.3),
    )

pub loop-alloc-smaller : goal.loop-alloc-smaller
loop-alloc-smaller g c =
    let more = c.in_ok-read_package.ensures in
    item_takes 126 c.loop-alloc.reader _ _ more.0 c.loop-alloc-test.ensures more.1

pub returns : goal.returns
returns g c =
    let were = c.loop-alloc.invariant in (
      array (items_of were.0),
      list_told 127 _ c.next.new.self _ were.0 c.loop-alloc.reader _ (omega arith) c.in-Some-BeginArray.ensures.value c.in-Some-BeginArray.field-0-is were.2 c.loop-alloc-test.ensures,
      were.1,
      (were.0, refl, were.3),
      were.4,
    )
