use Rattle.std.proofs.Common.{◌≡◌, ◌∙◌, ap, ◌≤◌, length, arith, vec_capacity}
use Rattle.guppy_search.proofs.Traces.{FoldsTo-along, length-judged, trace_kept}
use Rattle.guppy_graph.specs.Graph.{GraphData}
use Rattle.guppy.proofs.query.PackageQuery.resolve_recorded.Goals as goal

pub resolve_with_mut-requires : goal.resolve_with_mut-requires
resolve_with_mut-requires g c = record { ready = rw (← c.in_ok-recorder.ensures.visitor) at c.requires.ready }

pub returns : goal.returns
returns g c =
    let s = c.in_ok-set.ensures.judged in
    let count : c.link_count.result ≡ length c.args.self.graph.links = c.link_count.ensures ∙ ap (λ (g : GraphData). length g.links) c.graph-graph.ensures in
    let fits : length s.0 ≤ vec_capacity c.in_ok-recorder.recorder.entries = let few = length-judged _ _ _ _ _ s.1 in omega (arith, count, c.in_ok-recorder.ensures.room) in
    let same = trace_kept _ (λ r. r.entries.items) (λ r. vec_capacity r.entries) (λ r e t k. (k.1, k.2)) s.0 _ _ c.in_ok-recorder.ensures.entries fits s.2 in
    record {
      graph = c.in_ok-set.ensures.graph;
      count = c.in_ok-set.ensures.count;
      judged = rw same s.1;
      visits = rw (same, ← c.in_ok-recorder.ensures.visitor) (FoldsTo-along (λ r. r.visitor) _ _ (λ r e t k. k.0) s.0 _ _ s.2);
      error = tt;
    }
