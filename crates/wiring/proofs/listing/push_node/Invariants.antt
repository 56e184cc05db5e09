use Rattle.std.proofs.Common.{vec_items}
use Rattle.graph.specs.Edges.{edge}
use Rattle.wiring.specs.Listing.{Lists, WireBelow}
use Rattle.wiring.proofs.listing.push_node.Given as goal

abbrev pub invariant-loop-label : goal.invariant-loop-label
invariant-loop-label g l =
    let m = g.G.Graph.graph l.graph in
    Lists (WireBelow m (edge l.node 0 0)) (vec_items l.initial.list)
    → Lists (WireBelow m (edge l.node l.label 0)) (vec_items l.list)
