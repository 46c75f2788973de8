use Rattle.std.proofs.Common.{◌≡◌, ◌∙◌, ◌++◌, ◌∷◌, [], refl, sym, subst}
use Rattle.std.proofs.lemmas.Iterator.Consumers.{YieldsList-end}
use Rattle.std.proofs.lemmas.Iterator.Adapters.{YieldsList-from_vec}
use Rattle.std.proofs.lemmas.List.{map-id}
use Rattle.std.specs.List.{AllZip}
use Rattle.indexmap.proofs.SetLemmas.{AllZip-push}
use Rattle.guppy_metadata.specs.Package.{IsPlaced}
use Rattle.guppy_metadata.specs.Sink.{IsShort}
use Rattle.guppy_metadata.proofs.AlikeLists.{each_itself}
use Rattle.guppy_metadata.proofs.sink.shown.Goals as goal

pub loop-package-init : goal.loop-package-init
loop-package-init g c =
    let none = sym c.in_ok-left.ensures.items in
    (subst (g.P.PackageSink.took c.new-sink.result []) none c.new-sink.ensures, subst (AllZip IsShort []) none tt)

pub loop-package-preserved : goal.loop-package-preserved
loop-package-preserved g c =
    let l = c.loop-package in
    let took = c.in_ok-take.ensures in
    let pushed = sym c.in_ok-push.ensures.items in (
      subst (g.P.PackageSink.took c.take.new.self (l.yielded ++ c.in-Some.package ∷ [])) pushed (took.took l.yielded l.left.items l.invariant.0),
      subst (AllZip IsShort (l.yielded ++ c.in-Some.package ∷ [])) pushed (AllZip-push IsShort _ _ _ _ l.invariant.1 took.short),
    )

pub returns : goal.returns
returns g c =
    let l = c.loop-package in
    let gives = c.into_iter-package-iterator.ensures.into_iter_gives in
    let ends = YieldsList-end (YieldsList-from_vec c.args.packages.items gives.0 (gives.1 ∙ c.args.packages.ok.0)) l.yielded l.package-iterator l.yielded_by c.next.result c.next.new.self c.in-None.is c.next.ensures.steps in
    let all : l.yielded ≡ c.args.packages.items = sym (map-id l.yielded) ∙ ends.0 in
    record {
      shown = l.yielded;
      left = l.left.items;
      took_are = l.invariant.0;
      shown_are = subst (AllZip IsPlaced l.yielded) all (each_itself IsPlaced (λ r. refl) l.yielded);
      left_are = each_itself IsPlaced (λ r. refl) l.left.items;
      short = subst (λ rs. AllZip IsShort rs l.left.items) all l.invariant.1;
    }
