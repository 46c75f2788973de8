use Rattle.std.proofs.Common.{◌≡◌, length, arith}
use Rattle.guppy_search.specs.declared.graph_core.graph.GraphFault.TheVariants.{OutOfMemory}
use Rattle.guppy_search.specs.Fault.{IsFault}
use Rattle.guppy_search.specs.Links.{links_between}
use Rattle.guppy_search.proofs.LinkEnds.{length-between, lists-between, ends-between, singles-between, unknown-between, repeat-between}
use Rattle.guppy_search.proofs.Rows.{graph_of}
use Rattle.guppy_search.proofs.Exits.{if_ok, if_err}
use Rattle.guppy_search.proofs.graph_core.graph.Graph.from_ends.Goals as goal

pub returns-in_err-forward-clause-nodes : goal.returns-in_err-forward-clause-nodes
returns-in_err-forward-clause-nodes g c = if_ok _ _ c.from_residual.ensures.0

pub returns-in_err-forward-clause-links : goal.returns-in_err-forward-clause-links
returns-in_err-forward-clause-links g c = if_ok _ _ c.from_residual.ensures.0

pub returns-in_err-forward-clause-graph : goal.returns-in_err-forward-clause-graph
returns-in_err-forward-clause-graph g c = if_ok _ _ c.from_residual.ensures.0

pub returns-in_err-number-clause-nodes : goal.returns-in_err-number-clause-nodes
returns-in_err-number-clause-nodes g c = if_ok _ _ c.from_residual-in_err-number.ensures.0

pub returns-in_err-number-clause-links : goal.returns-in_err-number-clause-links
returns-in_err-number-clause-links g c = if_ok _ _ c.from_residual-in_err-number.ensures.0

pub returns-in_err-number-clause-graph : goal.returns-in_err-number-clause-graph
returns-in_err-number-clause-graph g c = if_ok _ _ c.from_residual-in_err-number.ensures.0

pub returns-in_err-reverse-clause-nodes : goal.returns-in_err-reverse-clause-nodes
returns-in_err-reverse-clause-nodes g c = if_ok _ _ c.from_residual-in_err-reverse.ensures.0

pub returns-in_err-reverse-clause-links : goal.returns-in_err-reverse-clause-links
returns-in_err-reverse-clause-links g c = if_ok _ _ c.from_residual-in_err-reverse.ensures.0

pub returns-in_err-reverse-clause-graph : goal.returns-in_err-reverse-clause-graph
returns-in_err-reverse-clause-graph g c = if_ok _ _ c.from_residual-in_err-reverse.ensures.0

pub returns-then-len-gt-LIMIT-2-clause-fault : goal.returns-then-len-gt-LIMIT-2-clause-fault
returns-then-len-gt-LIMIT-2-clause-fault g c =
    let nodes = c.len.ensures in
    let few = c.if-len-gt-LIMIT.false in
    let links = c.len-2.ensures in
    let many = c.if-len-gt-LIMIT-2.true in
    let count = length-between c.args.ends.items c.args.edges.items c.requires in
    (omega arith, omega arith)

pub returns-in-Some-clause-fault : goal.returns-in-Some-clause-fault
returns-in-Some-clause-fault g c =
    let nodes = c.len.ensures in
    let few = c.if-len-gt-LIMIT.false in
    let links = c.len-2.ensures in
    let few' = c.if-len-gt-LIMIT-2.false in
    let size : c.len-3.result ≡ length c.args.nodes.items = let len = c.len-3.ensures in let ok = c.args.nodes.ok in omega arith in
    let count = length-between c.args.ends.items c.args.edges.items c.requires in
    (omega arith, omega arith, unknown-between c.args.ends.items c.args.edges.items c.requires _ _ (rw (c.as_slice.ensures.value, size) at c.in-Some.ensures))

pub new-requires-clause-ends : goal.new-requires-clause-ends
new-requires-clause-ends g c =
    let size : c.len-3.result ≡ length c.args.nodes.items = let len = c.len-3.ensures in let ok = c.args.nodes.ok in omega arith in
    let ends = rw (c.as_slice.ensures.value, size) at c.in_default.ensures in
    let size4 : c.len-4.result ≡ length c.args.nodes.items = let len = c.len-4.ensures in let ok = c.args.nodes.ok in omega arith in
    rw (c.as_slice-2.ensures.value, size4) ends

pub returns-in_err-forward-clause-fault : goal.returns-in_err-forward-clause-fault
returns-in_err-forward-clause-fault g c = if_err (IsFault (length c.args.nodes.items) (links_between c.args.ends.items c.args.edges.items)) (λ e. e ≡ OutOfMemory) _ c.from_residual.ensures.1 (λ e is. rw is tt)

pub returns-in_err-number-clause-fault : goal.returns-in_err-number-clause-fault
returns-in_err-number-clause-fault g c = if_err (IsFault (length c.args.nodes.items) (links_between c.args.ends.items c.args.edges.items)) (λ e. e ≡ OutOfMemory) _ c.from_residual-in_err-number.ensures.1 (λ e is. rw is tt)

pub returns-in_err-reverse-clause-fault : goal.returns-in_err-reverse-clause-fault
returns-in_err-reverse-clause-fault g c = if_err (IsFault (length c.args.nodes.items) (links_between c.args.ends.items c.args.edges.items)) (λ e. e ≡ OutOfMemory) _ c.from_residual-in_err-reverse.ensures.1 (λ e is. rw is tt)

pub first_repeat-requires-clause-lists : goal.first_repeat-requires-clause-lists
first_repeat-requires-clause-lists g c =
    let size4 : c.len-4.result ≡ length c.args.nodes.items = let len = c.len-4.ensures in let ok = c.args.nodes.ok in omega arith in
    let size5 : c.len-5.result ≡ length c.args.nodes.items = let len = c.len-5.ensures in let ok = c.args.nodes.ok in omega arith in
    let lists = rw (c.as_slice-2.ensures.value, size4) at c.in_ok-forward.ensures in
    rw (c.as_slice-3.ensures.value, size5) lists

pub first_repeat-requires-clause-ends : goal.first_repeat-requires-clause-ends
first_repeat-requires-clause-ends g c =
    let size : c.len-3.result ≡ length c.args.nodes.items = let len = c.len-3.ensures in let ok = c.args.nodes.ok in omega arith in
    let ends = rw (c.as_slice.ensures.value, size) at c.in_default.ensures in
    let size5 : c.len-5.result ≡ length c.args.nodes.items = let len = c.len-5.ensures in let ok = c.args.nodes.ok in omega arith in
    rw (c.as_slice-3.ensures.value, size5) ends

pub returns-in-Some-2-clause-fault : goal.returns-in-Some-2-clause-fault
returns-in-Some-2-clause-fault g c =
    let nodes = c.len.ensures in
    let few = c.if-len-gt-LIMIT.false in
    let links = c.len-2.ensures in
    let few' = c.if-len-gt-LIMIT-2.false in
    let size : c.len-3.result ≡ length c.args.nodes.items = let len = c.len-3.ensures in let ok = c.args.nodes.ok in omega arith in
    let ends = rw (c.as_slice.ensures.value, size) at c.in_default.ensures in
    let count = length-between c.args.ends.items c.args.edges.items c.requires in (
      omega arith,
      omega arith,
      ends-between c.args.ends.items c.args.edges.items c.requires _ ends,
      repeat-between c.args.ends.items c.args.edges.items c.requires _ (rw (c.as_slice-3.ensures.value, c.in-Some-2.is) at c.in_ok-number.ensures),
    )

pub new-requires-2-clause-ends : goal.new-requires-2-clause-ends
new-requires-2-clause-ends g c =
    let size : c.len-3.result ≡ length c.args.nodes.items = let len = c.len-3.ensures in let ok = c.args.nodes.ok in omega arith in
    let ends = rw (c.as_slice.ensures.value, size) at c.in_default.ensures in
    let size6 : c.len-6.result ≡ length c.args.nodes.items = let len = c.len-6.ensures in let ok = c.args.nodes.ok in omega arith in
    rw (c.as_slice-4.ensures.value, size6) ends

pub invariant_of-result : goal.invariant_of-result
invariant_of-result g c =
    let nodes = c.len.ensures in
    let few = c.if-len-gt-LIMIT.false in
    let links = c.len-2.ensures in
    let few' = c.if-len-gt-LIMIT-2.false in
    let size : c.len-3.result ≡ length c.args.nodes.items = let len = c.len-3.ensures in let ok = c.args.nodes.ok in omega arith in
    let ends = rw (c.as_slice.ensures.value, size) at c.in_default.ensures in
    let singles = rw (c.as_slice-3.ensures.value, c.in_default-2.is) at c.in_ok-number.ensures in
    let size4 : c.len-4.result ≡ length c.args.nodes.items = let len = c.len-4.ensures in let ok = c.args.nodes.ok in omega arith in
    let size6 : c.len-6.result ≡ length c.args.nodes.items = let len = c.len-6.ensures in let ok = c.args.nodes.ok in omega arith in
    let count = length-between c.args.ends.items c.args.edges.items c.requires in
    record {
      paired = c.requires;
      graph = graph_of c.args.nodes.items (links_between c.args.ends.items c.args.edges.items) (omega arith) (omega arith)
          (ends-between c.args.ends.items c.args.edges.items c.requires _ ends)
          (rw count (singles-between c.args.ends.items c.args.edges.items c.requires _ singles));
      forward_is = lists-between c.args.ends.items c.args.edges.items c.requires _ _ _ _ _ (rw (c.as_slice-2.ensures.value, size4) at c.in_ok-forward.ensures);
      reverse_is = lists-between c.args.ends.items c.args.edges.items c.requires _ _ _ _ _ (rw (c.as_slice-4.ensures.value, size6) at c.in_ok-reverse.ensures);
    }

pub returns-clause-graph : goal.returns-clause-graph
returns-clause-graph g c =
    let nodes = c.len.ensures in
    let few = c.if-len-gt-LIMIT.false in
    let links = c.len-2.ensures in
    let few' = c.if-len-gt-LIMIT-2.false in
    let size : c.len-3.result ≡ length c.args.nodes.items = let len = c.len-3.ensures in let ok = c.args.nodes.ok in omega arith in
    let ends = rw (c.as_slice.ensures.value, size) at c.in_default.ensures in
    let singles = rw (c.as_slice-3.ensures.value, c.in_default-2.is) at c.in_ok-number.ensures in
    let count = length-between c.args.ends.items c.args.edges.items c.requires in
    graph_of c.args.nodes.items (links_between c.args.ends.items c.args.edges.items) (omega arith) (omega arith)
    (ends-between c.args.ends.items c.args.edges.items c.requires _ ends)
    (rw count (singles-between c.args.ends.items c.args.edges.items c.requires _ singles))
