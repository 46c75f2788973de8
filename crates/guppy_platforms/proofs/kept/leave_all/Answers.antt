use Rattle.std.proofs.Common.{◌≡◌, false, [], sym, subst, get_or, arith}
use Rattle.guppy_data.specs.Platform.{question_of}
use Rattle.guppy_platforms.specs.Counting.{counting_of}
use Rattle.guppy_platforms.specs.Host.{IsMark}
use Rattle.guppy_platforms.specs.Kept.{IsLeftThere, IsLinkLeft}
use Rattle.guppy_platforms.proofs.Numbers.{zip_at}
use Rattle.guppy_data.proofs.Replaced.{one_more, rest_same, item_same}
use Rattle.guppy_platforms.proofs.kept.leave_all.Goals as goal

pub loop-link-preserved : goal.loop-link-preserved
loop-link-preserved c =
    let l = c.loop-link in
    let k = l.link-index in
    let marks = c.args.marks.now in
    let old = c.args.links.now in
    let link = c.link-item.result in
    let left = c.leave_counting.new.link in
    let there = get_or l.links k link in
    let mark = get_or marks l.place false in
    let question = question_of c.args.platforms.now in
    let host = question_of c.args.host.now in
    let this : IsLinkLeft (counting_of question host mark there) there left = subst (λ counting. IsLinkLeft counting there left) c.of.ensures c.leave_counting.ensures in
    let item : IsLinkLeft (counting_of question host mark link) link left = subst (λ link. IsLinkLeft (counting_of question host mark link) link left) (sym c.link-item.is) this in
    record {
      done = λ packages all zip.
          let at : IsMark packages all (get_or old k link) (get_or marks k false) = zip_at (IsMark packages all) old marks k link false zip (omega (arith, l.auto.links)) in
          let own : link ≡ get_or old k link = item_same (IsLeftThere question host packages all) old l.links k link left (omega arith) (omega (arith, l.auto.links)) c.link-item.is l.invariant.rest in
          let is_mark : IsMark packages all link mark = subst (λ n. IsMark packages all link (get_or marks n false)) (sym l.invariant.place) (subst (λ z. IsMark packages all z (get_or marks k false)) (sym own) at) in
          one_more (IsLeftThere question host packages all) old l.links k link left (omega arith) (omega (arith, l.auto.links)) c.link-item.is l.invariant.rest
          (record { runs = mark; is_mark = is_mark; is_left = item }) (l.invariant.done packages all zip);
      rest = rest_same (λ a b. IsLeftThere question host [] [] a b) old l.links k link left (omega arith) (omega (arith, l.auto.links)) c.link-item.is l.invariant.rest;
      place = let place = l.invariant.place in omega arith;
    }
