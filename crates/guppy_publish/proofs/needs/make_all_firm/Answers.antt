use Rattle.std.proofs.Common.{sym, subst, map, arith}
use Rattle.guppy_data.specs.declared.records.LinkRecord.{LinkRecord}
use Rattle.guppy_publish.specs.Needs.{pair_texts, IsNeedOf}
use Rattle.guppy_data.proofs.Replaced.{one_more, rest_same}
use Rattle.guppy_publish.proofs.needs.make_all_firm.Goals as goal

pub loop-link-preserved : goal.loop-link-preserved
loop-link-preserved c =
    let l = c.loop-link in
    let k = l.link-index in
    let firm = c.make_firm.new.link in
    let R : LinkRecord → LinkRecord → Type 0 = IsNeedOf (map pair_texts c.args.declared.now) in
    let item : R c.link-item.result firm = subst (λ link. R link firm) (sym c.link-item.is) c.make_firm.ensures in
    record {
      done = one_more R c.args.links.now l.links k c.link-item.result firm (omega arith) (omega (arith, l.auto.links)) c.link-item.is l.invariant.rest item l.invariant.done;
      rest = rest_same R c.args.links.now l.links k c.link-item.result firm (omega arith) (omega (arith, l.auto.links)) c.link-item.is l.invariant.rest;
    }
