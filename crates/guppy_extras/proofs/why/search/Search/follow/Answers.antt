use Rattle.std.proofs.Common.{◌≡◌, ◌<◌, ◌+◌, ◌∙◌, sym, ap, subst, refl, arith, length, Some, Bool, true, false}
use Rattle.std.specs.Prelude.{not}
use Rattle.std.proofs.lemmas.Option.{slice_get_read}
use Rattle.std.proofs.Math.ListN.{set}
use Rattle.std.specs.Borrow.{Bor}
use Rattle.guppy_graph.specs.Graph.{GraphData}
use Rattle.guppy.specs.Views.{package_position, graph_packages}
use Rattle.guppy_search.specs.IxSet.{has}
use Rattle.guppy_extras.specs.declared.why.search.Found.{Found}
use Rattle.guppy_extras.specs.Searches.{PartlyFollowed}
use Rattle.guppy_extras.proofs.PackageSteps.{distance_at, kept_push, follows_seen, follows_new}
use Rattle.guppy_extras.proofs.why.search.Search.follow.Goals as goal

was_false : (b : Bool) → not b ≡ true → b ≡ false
was_false true h = cc
was_false false h = refl

was_true : (b : Bool) → not b ≡ false → b ≡ true
was_true true h = refl
was_true false h = cc

pub overflow_add-distance : goal.overflow_add-distance
overflow_add-distance c =
    let s = c.args.self.now in
    let within : c.args.place < length s.found.items = c.requires.within in
    let at = slice_get_read s.found.items (length s.found.items) c.args.place c.index.result.now refl within c.index.ensures in
    let le = distance_at s.start s.found.items s.seen c.args.place c.args.place c.index.result.now c.requires.under_way at in
    omega arith

pub returns-in_ok-push-clause-kept : goal.returns-in_ok-push-clause-kept
returns-in_ok-push-clause-kept c = kept_push c.args.self.now.found.items c.push.new.self.items _ c.in_ok-push.ensures.items

pub returns-in_ok-push-clause-followed : goal.returns-in_ok-push-clause-followed
returns-in_ok-push-clause-followed c left following =
    let s = c.args.self.now in
    let m = c.to-metadata.result in
    let found = c.index.result.now in
    let more : Found = record { metadata = m; distance = found.distance + 1; last = Some (c.args.link, c.args.place) } in
    let within : c.args.place < length s.found.items = c.requires.within in
    let at = slice_get_read s.found.items (length s.found.items) c.args.place found refl within c.index.ensures in
    let own : package_position m < length (graph_packages m) = m.in_graph in
    let below : package_position m < length (graph_packages s.start) = subst (λ (g : Bor GraphData). package_position m < length g.now.packages) (c.to-metadata.ensures.graph ∙ c.requires.graph) own in
    let seen_below : package_position m < length s.seen = rw (c.requires.under_way.count) below in
    let lacks : has s.seen (package_position m) ≡ false = rw (← c.package_ix.ensures) (was_false _ (sym c.if-insert.ensures.is_new)) in
    subst (λ seen. PartlyFollowed s.start c.push.new.self.items seen c.args.place left) (sym (c.insert.ensures.after ∙ ap (λ p. set s.seen p true) c.package_ix.ensures))
    (follows_new s.start s.found.items s.seen c.args.place c.args.link m left c.requires.graph c.to-metadata.ensures.position following found more c.push.new.self.items at refl c.in_ok-push.ensures.items c.to-metadata.ensures.graph seen_below lacks)

pub returns-else-insert-clause-followed : goal.returns-else-insert-clause-followed
returns-else-insert-clause-followed c left following =
    let s = c.args.self.now in
    let m = c.to-metadata.result in
    let has_it : has s.seen (package_position m) ≡ true = rw (← c.package_ix.ensures) (was_true _ (sym c.if-insert.ensures.is_new)) in
    subst (λ seen. PartlyFollowed s.start s.found.items seen c.args.place left) (sym (c.insert.ensures.after ∙ ap (λ p. set s.seen p true) c.package_ix.ensures))
    (follows_seen s.start s.found.items s.seen c.args.place c.args.link m left c.requires.graph c.to-metadata.ensures.position following has_it)
