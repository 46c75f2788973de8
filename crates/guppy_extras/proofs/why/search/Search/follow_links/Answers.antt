use Rattle.std.proofs.Common.{◌<◌, ◌∙◌, refl, sym, ap, subst, length}
use Rattle.std.proofs.lemmas.Option.{slice_get_read}
use Rattle.guppy_search.specs.declared.ix.direction.DependencyDirection.TheVariants.{Forward}
use Rattle.guppy_search.specs.Links.{links_at}
use Rattle.guppy.specs.DirectLinks.{links_left}
use Rattle.guppy.specs.Views.{graph_of, package_position}
use Rattle.guppy.specs.declared.metadata.PackageMetadata.{PackageMetadata}
use Rattle.guppy_extras.specs.Searches.{links_beside, IsFollowing}
use Rattle.guppy_extras.proofs.LeavingLinks.{IsNext, leaving, next_of, none_left}
use Rattle.guppy_extras.proofs.PackageSteps.{graph_at, partly_first, partly_within, partly_done}
use Rattle.guppy_extras.proofs.why.search.Search.follow_links.Goals as goal

pub links-init : goal.links-init
links-init c =
    let s = c.args.self.now in
    let found = c.index.result.now in
    let within : c.args.place < length s.found.items = c.requires.within in
    let at = slice_get_read s.found.items (length s.found.items) c.args.place found refl within c.index.ensures in
    let graph = graph_at s.start s.found.items s.seen c.args.place c.requires.under_way c.args.place found at in
    record {
      left = links_at Forward (links_beside s.start) (package_position found.metadata);
      left_is = rw c.into_iter-link-iterator.ensures.into_iter_gives (leaving s.start found.metadata (links_left c.direct_links-link-items.result) graph c.direct_links-link-items.ensures);
      start = refl;
      kept = λ k n there. there;
      following = partly_first s.start s.found.items s.seen c.args.place c.requires.under_way c.args.place found at refl;
    }

pub follow-requires-clause-under_way : goal.follow-requires-clause-under_way
follow-requires-clause-under_way c = c.links.invariant.following.under_way

pub follow-requires-clause-within : goal.follow-requires-clause-within
follow-requires-clause-within c =
    let s = c.links.self in
    partly_within s.start s.found.items s.seen c.args.place c.links.invariant.left c.links.invariant.following

pub follow-requires-clause-graph : goal.follow-requires-clause-graph
follow-requires-clause-graph c =
    let now = c.links.invariant in
    let next = next_of (graph_of c.args.self.now.start) now.left c.in-Some.link _ (sym now.left_is ∙ c.in-Some.ensures.steps) in
    next.graph ∙ ap (λ (m : PackageMetadata). graph_of m) (sym now.start)

pub links-preserved : goal.links-preserved
links-preserved c =
    let now = c.links.invariant in
    let s = c.links.self in
    let next : IsNext (graph_of c.args.self.now.start) now.left c.in-Some.link (links_left c.next.new.self) = next_of (graph_of c.args.self.now.start) now.left c.in-Some.link _ (sym now.left_is ∙ c.in-Some.ensures.steps) in
    let following = subst (λ ns. IsFollowing s c.args.place ns) next.numbers now.following in
    record {
      left = next.more;
      left_is = next.rest_is;
      start = c.follow.ensures.start ∙ now.start;
      kept = λ k n there. c.in_ok-follow.ensures.kept k n (now.kept k n there);
      following = c.in_ok-follow.ensures.followed next.more following;
    }

pub returns-in_err-follow-clause-start : goal.returns-in_err-follow-clause-start
returns-in_err-follow-clause-start c = c.follow.ensures.start ∙ c.links.invariant.start

pub returns-clause-start : goal.returns-clause-start
returns-clause-start c = c.links.invariant.start

pub returns-clause-kept : goal.returns-clause-kept
returns-clause-kept c = c.links.invariant.kept

pub returns-clause-under_way : goal.returns-clause-under_way
returns-clause-under_way c =
    let now = c.links.invariant in
    let s = c.links.self in
    let none = none_left (graph_of c.args.self.now.start) now.left (sym now.left_is ∙ c.in-None.ensures.steps.0) in
    partly_done s.start s.found.items s.seen c.args.place now.left none now.following
