use Rattle.std.proofs.Common.{sym, ◌∙◌, ◌≡◌, ◌<◌, ◌+◌, ◌*◌, ◌/◌, ◌%◌, ◌^◌, arith, Bool, true, false, List, length, ap}
use Rattle.std.specs.Prelude.{bit_or}
use Rattle.std.proofs.Math.ListN.{set, length-set}
use Rattle.guppy_search.specs.IxSet.{has, member_count, marks_of}
use Rattle.guppy_search.proofs.Members.{member_count-lt-length, member_count-set, fits-set}
use Rattle.guppy_search.proofs.Marks.{below_count, word_within, word_there, length-marks_of, marks_of-write, clear-write}
use Rattle.guppy_search.proofs.ix.ix_set.IxSet.insert_position.Goals as goal

pub index-word-requires : goal.index-word-requires
index-word-requires g c = omega (arith, word_there _ _ _ _ c.self.view_is c.requires.in_range c.self.invariant.room, c.self.inside.words.ok.0)

pub index_mut-requires : goal.index_mut-requires
index_mut-requires g c = omega (arith, word_there _ _ _ _ c.self.view_is c.requires.in_range c.self.invariant.room, c.self.inside.words.ok.0)

pub overflow_add-self : goal.overflow_add-self
overflow_add-self g c =
    let i = c.self.inside in
    let lacks : has c.args.self.now c.args.position ≡ false = sym c.has_position.ensures.value ∙ c.if-has_position.false in
    let room : member_count (marks_of i.words.items i.count) < length (marks_of i.words.items i.count) = rw c.self.view_is (member_count-lt-length c.args.self.now c.args.position c.requires.in_range lacks) in
    let len = length-marks_of i.words.items i.count in
    let same = c.self.invariant.counted in
    let small = c.self.invariant.small in
    omega arith

pub invariant_of-self : goal.invariant_of-self
invariant_of-self g c =
    let i = c.self.inside in
    let below = below_count i.words.items i.count c.args.position _ c.self.view_is c.requires.in_range in
    let within = word_within i.words.items i.count c.args.position below c.self.invariant.room in
    let lacks : has c.args.self.now c.args.position ≡ false = sym c.has_position.ensures.value ∙ c.if-has_position.false in
    let more : member_count (set (marks_of i.words.items i.count) c.args.position true) ≡ member_count (marks_of i.words.items i.count) + 1 = rw c.self.view_is (member_count-set c.args.self.now c.args.position c.requires.in_range lacks) in
    let write = marks_of-write i.words.items i.count c.args.position c.index-word.result.now below within c.index-word.ensures in
    let len = length-set i.words.items (c.args.position / 64) (bit_or c.index-word.result.now (1 * 2 ^ (c.args.position % 64) % 18446744073709551616)) in
    record {
      room = rw len c.self.invariant.room;
      small = c.self.invariant.small;
      counted = ap (λ n. n + 1) c.self.invariant.counted ∙ sym (ap member_count write ∙ more);
      fit = rw write (fits-set (marks_of i.words.items i.count) c.args.position c.requires.small c.self.invariant.fit);
      clear = clear-write i.words.items i.count c.args.position c.index-word.result.now below within c.index-word.ensures c.self.invariant.clear;
    }

pub returns-clause-after : goal.returns-clause-after
returns-clause-after g c =
    let i = c.self.inside in
    let below = below_count i.words.items i.count c.args.position _ c.self.view_is c.requires.in_range in
    let within = word_within i.words.items i.count c.args.position below c.self.invariant.room in
    marks_of-write i.words.items i.count c.args.position c.index-word.result.now below within c.index-word.ensures ∙ ap (λ (v : List Bool). set v c.args.position true) c.self.view_is
