use Rattle.std.proofs.Common.{vec_items}
use Rattle.graph.specs.Edges.{edge}
use Rattle.wiring.specs.Listing.{Lists, WireBelow}
use Rattle.wiring.proofs.listing.wires.Given as goal

abbrev pub invariant-loop-node : goal.invariant-loop-node
invariant-loop-node g l = Lists (WireBelow (g.G.Graph.graph l.graph) (edge l.node 0 0)) (vec_items l.list)
