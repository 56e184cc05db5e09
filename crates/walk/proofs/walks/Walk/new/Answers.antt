use Rattle.std.proofs.Common.{arith}
use Rattle.walk.proofs.walks.Walk.new.Goals as goal

pub invariant_of-result : goal.invariant_of-result
invariant_of-result g c =
    let G = g.G.Graph.graph c.args.graph.now in
    record { entering = c.masks.ensures.each G.labels (omega (arith, c.label_count.ensures)) }
