use Rattle.std.proofs.Common.{◌≡◌, ◌≤◌, vec_items}
use Rattle.graph.specs.Edges.{edge}
use Rattle.wiring.specs.Listing.{Lists, WireBelow}
use Rattle.wiring.proofs.listing.push_row.Given as goal

abbrev pub invariant-loop-to : goal.invariant-loop-to
invariant-loop-to g l =
    let m = g.G.Graph.graph l.graph in
    let i = l.to-iterator in
    (i.graph.now ≡ l.graph)
    × (i.node ≡ l.node)
    × (i.label ≡ l.label)
    × (i.bound ≤ 1024)
    × (Lists (WireBelow m (edge l.node l.label 0)) (vec_items l.initial.list)
    → Lists (WireBelow m (edge l.node l.label i.bound)) (vec_items l.list))
