use Rattle.std.proofs.Common.{sym, ap, subst, ◌∙◌, arith}
use Rattle.rh_dump.specs.Dumpable.{IsDumpable}
use Rattle.rh_dump.specs.Meeting.{NumberingState, numbering_after}
use Rattle.rh_dump.proofs.numbers.NumberingSteps.{rooted, IsDumpOf-last}
use Rattle.rh_dump.proofs.numbering.numbered_graph.Goals as goal

pub new-requires : goal.new-requires
new-requires g c = omega (arith, c.limit.ensures.limit, c.limit.ensures.dumpable.few)

pub put_roots-requires-clause-owners : goal.put_roots-requires-clause-owners
put_roots-requires-clause-owners g c = c.limit.ensures.dumpable.owners

pub put_roots-requires-clause-dumpable : goal.put_roots-requires-clause-dumpable
put_roots-requires-clause-dumpable g c =
    subst (λ n. IsDumpable n (g.H.ObjectGraph.graph c.args.heap.now)) (sym (ap (λ (s : NumberingState). s.limit) c.in_ok-numbering.ensures ∙ c.limit.ensures.limit)) c.limit.ensures.dumpable

pub put_objects-requires-clause-dumpable : goal.put_objects-requires-clause-dumpable
put_objects-requires-clause-dumpable g c =
    let graph = g.H.ObjectGraph.graph c.args.heap.now in
    let state = rooted (g.H.ObjectGraph.limit_of c.args.heap.now) graph c.limit.result c.in_ok-numbering.numbering c.put_roots.new.self c.limit.ensures.limit c.in_ok-numbering.ensures c.in_ok-put_roots.ensures in
    subst (λ n. IsDumpable n graph) (sym (ap (λ (s : NumberingState). s.limit) state)) c.limit.ensures.dumpable

pub put_objects-requires-clause-roots : goal.put_objects-requires-clause-roots
put_objects-requires-clause-roots g c =
    let graph = g.H.ObjectGraph.graph c.args.heap.now in
    let state = rooted (g.H.ObjectGraph.limit_of c.args.heap.now) graph c.limit.result c.in_ok-numbering.numbering c.put_roots.new.self c.limit.ensures.limit c.in_ok-numbering.ensures c.in_ok-put_roots.ensures in
    state ∙ ap (λ n. numbering_after n graph 0) (sym (ap (λ (s : NumberingState). s.limit) state))

pub finish-requires-clause-filled : goal.finish-requires-clause-filled
finish-requires-clause-filled g c =
    let graph = g.H.ObjectGraph.graph c.args.heap.now in
    let state = rooted (g.H.ObjectGraph.limit_of c.args.heap.now) graph c.limit.result c.in_ok-numbering.numbering c.put_roots.new.self c.limit.ensures.limit c.in_ok-numbering.ensures c.in_ok-put_roots.ensures in
    (IsDumpOf-last (g.H.ObjectGraph.limit_of c.args.heap.now) graph c.put_roots.new.self c.put_objects.new.self c.limit.ensures.dumpable (ap (λ (s : NumberingState). s.limit) state) c.in_ok-put_objects.ensures).filled

pub finish-requires-clause-graph : goal.finish-requires-clause-graph
finish-requires-clause-graph g c =
    let graph = g.H.ObjectGraph.graph c.args.heap.now in
    let state = rooted (g.H.ObjectGraph.limit_of c.args.heap.now) graph c.limit.result c.in_ok-numbering.numbering c.put_roots.new.self c.limit.ensures.limit c.in_ok-numbering.ensures c.in_ok-put_roots.ensures in
    (IsDumpOf-last (g.H.ObjectGraph.limit_of c.args.heap.now) graph c.put_roots.new.self c.put_objects.new.self c.limit.ensures.dumpable (ap (λ (s : NumberingState). s.limit) state) c.in_ok-put_objects.ensures).graph

pub returns : goal.returns
returns g c =
    let graph = g.H.ObjectGraph.graph c.args.heap.now in
    let state = rooted (g.H.ObjectGraph.limit_of c.args.heap.now) graph c.limit.result c.in_ok-numbering.numbering c.put_roots.new.self c.limit.ensures.limit c.in_ok-numbering.ensures c.in_ok-put_roots.ensures in
    c.finish.ensures ∙ (IsDumpOf-last (g.H.ObjectGraph.limit_of c.args.heap.now) graph c.put_roots.new.self c.put_objects.new.self c.limit.ensures.dumpable (ap (λ (s : NumberingState). s.limit) state) c.in_ok-put_objects.ensures).dump
