use Rattle.std.proofs.Common.{◌<◌, length, arith, rules}
use Rattle.guppy_search.proofs.CombinedWords.{combined_none, combined_more}
use Rattle.guppy_search.proofs.ix.words.combine.Goals as goal

pub loop-k-init : goal.loop-k-init
loop-k-init g c = combined_none (λ a b r. g.F.Fn.post c.args.operation (a, (b, tt)) r) c.args.words.now c.args.others.now

pub loop-k-preserved : goal.loop-k-preserved
loop-k-preserved g c =
    let count = c.requires.count in
    let within : c.loop-k.k < length c.loop-k.words = let same = c.loop-k.auto.words in let test = c.loop-k-test.true in omega arith in
    combined_more (λ a b r. g.F.Fn.post c.args.operation (a, (b, tt)) r) c.args.words.now c.args.others.now c.loop-k.k c.loop-k.words c.operation.result c.loop-k.invariant within c.operation.ensures c.operation.type_inv

pub returns-clause-made : goal.returns-clause-made
returns-clause-made g c = λ k h. c.loop-k.invariant.combined k (let count = c.requires.count in let test = c.loop-k-test.false in omega arith)

pub returns-clause-fits : goal.returns-clause-fits
returns-clause-fits g c = λ k h. (search rules, c.loop-k.invariant.fits k (let count = c.requires.count in let test = c.loop-k-test.false in omega arith))
