use Rattle.std.proofs.Common.{◌≡◌, ℕ, vec_items, subst, arith}
use Rattle.graph.specs.Edges.{edge}
use Rattle.wiring.specs.Listing.{Lists, WireBelow}
use Rattle.wiring.proofs.Rising.{node_all}
use Rattle.wiring.proofs.listing.push_node.Goals as goal

pub returns : goal.returns
returns g c =
    let m = g.G.Graph.graph c.args.graph.now in
    let all : c.loop-label.label ≡ m.labels
    = omega (arith, c.loop-label-test.false, c.loop-label.auto.label-end, c.label_count-label-end.ensures) in
    λ before. node_all m c.args.node (vec_items c.loop-label.list)
    (subst (λ (a : ℕ). Lists (WireBelow m (edge c.args.node a 0)) (vec_items c.loop-label.list)) all (c.loop-label.invariant before))
