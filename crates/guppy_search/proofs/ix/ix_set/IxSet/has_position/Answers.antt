use Rattle.std.proofs.Common.{◌∙◌, arith}
use Rattle.guppy_search.proofs.Marks.{below_count, word_within, word_there, has-view, test-marked}
use Rattle.guppy_search.proofs.ix.ix_set.IxSet.has_position.Goals as goal

pub index-requires : goal.index-requires
index-requires g c =
    let i = c.self.inside in
    let within = word_there i.words.items i.count c.args.position _ c.self.view_is c.requires c.self.invariant.room in
    let ok = i.words.ok in
    omega arith

pub returns-clause-value : goal.returns-clause-value
returns-clause-value g c =
    let i = c.self.inside in
    let below = below_count i.words.items i.count c.args.position _ c.self.view_is c.requires in
    let within = word_within i.words.items i.count c.args.position below c.self.invariant.room in
    test-marked i.words.items c.args.position c.index.result.now within c.index.ensures ∙ has-view i.words.items i.count c.args.position _ c.self.view_is below
