use Rattle.std.proofs.Common.{◌≡◌, ◌≢◌, ◌<◌, ◌≤◌, ◌+◌, ◌-◌, ◌∙◌, refl, sym, ap, subst, ℕ, length, arith, true, false}
use Rattle.std.proofs.lemmas.Bool.{eq-eqb}
use Rattle.std.proofs.lemmas.Option.{slice_get_read}
use Rattle.guppy_graph.specs.Ids.{ix_position}
use Rattle.guppy.specs.Views.{package_position, graph_packages}
use Rattle.guppy.specs.declared.metadata.PackageMetadata.{PackageMetadata}
use Rattle.guppy_extras.specs.Walk.{NoWalk}
use Rattle.guppy_extras.specs.Searches.{nodes_of, node_of, links_beside}
use Rattle.guppy_extras.proofs.PackageSteps.{room, node_at, elsewhere_more, none_at}
use Rattle.guppy_extras.proofs.why.search.Search.find.Goals as goal

smaller : (a b p : ℕ) → p < b → a ≡ b → a - (p + 1) < b - p
smaller a b p within same = omega arith

pub places-smaller : goal.places-smaller
places-smaller c =
    let s = c.places.self in
    let t = c.follow_links.new.self in
    let now = c.places.invariant.under_way in
    let after = c.in_ok-follow_links.ensures.under_way in
    let test = c.places-test.true in
    let len = c.len.ensures in
    let within : c.places.place < length s.found.items = omega arith in
    let same : length t.seen ≡ length s.seen = after.count ∙ ap (λ (m : PackageMetadata). length (graph_packages m)) c.follow_links.ensures.start ∙ sym now.count in
    smaller (length t.seen) (length s.seen) c.places.place (room s.start s.found.items s.seen c.places.place now c.places.place within) same

pub places-preserved : goal.places-preserved
places-preserved c =
    let s = c.places.self in
    let t = c.follow_links.new.self in
    let found = c.index.result.now in
    let test = c.places-test.true in
    let len = c.len.ensures in
    let within : c.places.place < length s.found.items = omega arith in
    let at = slice_get_read s.found.items (length s.found.items) c.places.place found refl within c.index.ensures in
    let other : package_position found.metadata ≢ ix_position c.args.position = λ e. absurd (let f : true ≡ false = sym (eq-eqb c.package_ix.result.0 c.args.position.0 (c.package_ix.ensures ∙ e)) ∙ (sym c.eq.ensures ∙ c.if-eq.false) in cc) in
    record {
      start = c.follow_links.ensures.start ∙ c.places.invariant.start;
      under_way = c.in_ok-follow_links.ensures.under_way;
      elsewhere = elsewhere_more (nodes_of s) (nodes_of t) c.places.place (ix_position c.args.position) (node_of found) c.in_ok-follow_links.ensures.kept (node_at s.found.items c.places.place found at) other c.places.invariant.elsewhere;
    }

pub returns-clause-none : goal.returns-clause-none
returns-clause-none c =
    let s = c.places.self in
    let now = c.places.invariant in
    let test = c.places-test.false in
    let len = c.len.ensures in
    let all : length s.found.items ≤ c.places.place = omega arith in
    subst (λ (m : PackageMetadata). NoWalk (links_beside m) (package_position m) (ix_position c.args.position)) now.start (none_at s.start s.found.items s.seen c.places.place now.under_way (ix_position c.args.position) all now.elsewhere)
