use Rattle.std.proofs.Common.{subst, Bor, map, All, arith}
use Rattle.std.proofs.lemmas.List.{length-map, take_all}
use Rattle.guppy_data.specs.declared.texts.package_id.PackageId.{PackageId}
use Rattle.guppy_program.specs.Publish.{IsFree}
use Rattle.guppy_program.proofs.Hindrances.{seen_at, one_more}
use Rattle.guppy_program.proofs.publish.first_hindered.Goals as goal

pub loop-id-init : goal.loop-id-init
loop-id-init c = λ k d within. absurd (omega arith)

pub loop-id-preserved : goal.loop-id-preserved
loop-id-preserved c =
    one_more (λ (id : Bor PackageId). id.now) c.args.ids.now c.loop-id.id-index c.id-item.result c.loop-id-test.true c.id-item.is
    (IsFree c.args.graph.now) c.loop-id.invariant c.in_default.ensures

pub returns-in-Some : goal.returns-in-Some
returns-in-Some c = record {
  place = c.loop-id.id-index;
  at = seen_at (λ (id : Bor PackageId). id.now) c.args.ids.now c.loop-id.id-index c.id-item.result c.loop-id-test.true c.id-item.is;
  before = c.loop-id.invariant;
  hindered = c.in-Some.ensures;
}

pub returns : goal.returns
returns c =
    let ids = map (λ (id : Bor PackageId). id.now) c.args.ids.now in
    let count = length-map c.args.ids.now (λ (id : Bor PackageId). id.now) in
    subst (All (IsFree c.args.graph.now)) (take_all c.loop-id.id-index ids (let past = c.loop-id-test.false in omega (arith, count))) c.loop-id.invariant
