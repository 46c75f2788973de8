use Rattle.std.proofs.Common.{◌<◌, refl, length}
use Rattle.std.proofs.lemmas.Option.{slice_get_read}
use Rattle.guppy_extras.proofs.WayBack.{back_first, back_within, back_step, back_smaller, back_done}
use Rattle.guppy_extras.proofs.why.search.Search.walk_to.Goals as goal

pub back-init : goal.back-init
back-init c =
    let s = c.args.self.now in
    let within : c.args.place < length s.found.items = c.requires.within in
    let at = slice_get_read s.found.items (length s.found.items) c.args.place c.index.result.now refl within c.index.ensures in
    back_first s.start s.found.items c.args.place c.index.result.now c.in_ok-walk.walk.items at c.in_ok-walk.ensures.items

pub back-smaller : goal.back-smaller
back-smaller c =
    let s = c.args.self.now in
    let found = c.index-in-back.result.now in
    let within = back_within s.start s.found.items c.args.place c.back.at c.back.walk.items c.back.invariant in
    let at = slice_get_read s.found.items (length s.found.items) c.back.at found refl within c.index-in-back.ensures in
    back_smaller s.start s.found.items s.seen c.requires.under_way.0 c.requires.under_way.1 c.args.place c.back.at c.back.walk.items c.back.invariant found at c.in-Some.link c.in-Some.before c.in-Some.is

pub back-preserved : goal.back-preserved
back-preserved c =
    let s = c.args.self.now in
    let found = c.index-in-back.result.now in
    let within = back_within s.start s.found.items c.args.place c.back.at c.back.walk.items c.back.invariant in
    let at = slice_get_read s.found.items (length s.found.items) c.back.at found refl within c.index-in-back.ensures in
    back_step s.start s.found.items s.seen c.requires.under_way.0 c.requires.under_way.1 c.args.place c.back.at c.back.walk.items c.back.invariant found at c.in-Some.link c.in-Some.before c.push.new.self.items c.in-Some.is c.in_ok-push.ensures.items

pub returns-clause-walk : goal.returns-clause-walk
returns-clause-walk c =
    let s = c.args.self.now in
    let found = c.index-in-back.result.now in
    let within = back_within s.start s.found.items c.args.place c.back.at c.back.walk.items c.back.invariant in
    let at = slice_get_read s.found.items (length s.found.items) c.back.at found refl within c.index-in-back.ensures in
    back_done s.start s.found.items s.seen c.requires.under_way.0 c.requires.under_way.1 c.args.place c.back.at c.back.walk.items c.back.invariant found at c.reverse.new.self.items c.in_default.is c.reverse.ensures.items
