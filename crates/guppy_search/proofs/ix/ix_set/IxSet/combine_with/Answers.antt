use Rattle.std.proofs.Common.{◌≡◌, ◌++◌, length, take, drop, arith}
use Rattle.guppy_search.proofs.CombinedWords.{AreMade, written_back, made_of_slices, same_count, combined_has, combined_few, combined_set}
use Rattle.guppy_search.proofs.ix.ix_set.IxSet.combine_with.Given.{Over}
use Rattle.guppy_search.proofs.ix.ix_set.IxSet.combine_with.Goals.{After-combine}
use Rattle.guppy_search.proofs.ix.ix_set.IxSet.combine_with.Goals as goal

-- the words are made of those of the two sets
made : (g : Over) (c : After-combine g) → AreMade (λ a b r. g.F.Fn.post c.args.operation (a, (b, tt)) r) c.self.inside.words.items c.other.inside.words.items c.combine.new.words
made g c = made_of_slices (λ a b r. g.F.Fn.post c.args.operation (a, (b, tt)) r) c.self.inside.words.items c.other.inside.words.items _ _ c.combine.new.words c.deref_mut.ensures.value c.deref.ensures.value c.combine.auto.words c.combine.ensures.fits c.combine.ensures.made

-- and stand where the set's words stood
back : (g : Over) (c : After-combine g) → take c.self.inside.words.len (c.combine.new.words ++ drop (length c.combine.new.words) c.self.inside.words.items) ≡ c.combine.new.words
back g c = written_back _ _ _ (let ok = c.self.inside.words.ok in let size = (made g c).size in omega arith)

pub combine-requires-clause-count : goal.combine-requires-clause-count
combine-requires-clause-count g c =
    let i = c.self.inside in
    let o = c.other.inside in
    let same = same_count i.words.items o.words.items i.count o.count c.args.self.now c.args.other.now c.self.view_is c.other.view_is c.requires.count in
    let room = c.self.invariant.room in
    let room' = c.other.invariant.room in
    rw (c.deref_mut.ensures.value, c.deref.ensures.value) (omega arith)

pub count_set_bits-self-inside-requires : goal.count_set_bits-self-inside-requires
count_set_bits-self-inside-requires g c =
    let at = (goal.at.count_set_bits-self-inside-requires g c).After-combine in
    rw (c.deref-2.ensures.value, back g at) (combined_few _ c.requires.bitwise.0 c.requires.bitwise.1 _ _ _ _ _ _ _ c.self.invariant c.other.invariant _ _ c.self.view_is c.other.view_is c.requires.count (made g at))

pub invariant_of-self : goal.invariant_of-self
invariant_of-self g c =
    let at = (goal.at.invariant_of-self g c).After-combine in
    let count = rw (c.deref-2.ensures.value, back g at) at c.count_set_bits-self-inside.ensures in
    rw (back g at) (combined_set _ c.requires.bitwise.0 c.requires.bitwise.1 _ _ _ _ _ _ _ c.self.invariant c.other.invariant _ _ c.self.view_is c.other.view_is c.requires.count (made g at) c.count_set_bits-self-inside.result count)

pub returns-clause-members : goal.returns-clause-members
returns-clause-members g c =
    let at = (goal.at.returns-clause-members g c).After-combine in
    rw (back g at) (λ both is p. combined_has _ both is _ _ _ _ _ _ _ c.self.invariant c.other.invariant _ _ c.self.view_is c.other.view_is c.requires.count (made g at) p)
