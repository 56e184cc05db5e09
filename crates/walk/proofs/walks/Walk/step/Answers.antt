use Rattle.std.proofs.Common.{arith}
use Rattle.walk.proofs.Stepping.{under_more, under_all}
use Rattle.walk.proofs.walks.Walk.step.Goals as goal

pub loop-label-preserved : goal.loop-label-preserved
loop-label-preserved g c =
    let G = g.G.Graph.graph c.args.self.now.graph.now in
    under_more G.has G.labels c.args.self.now.automaton.now c.args.node c.successors-after.result c.loop-label.label _
    c.loop-label.invariant c.spread.ensures (λ t. c.args.self.now.entering c.loop-label.label t (omega arith))

pub returns : goal.returns
returns g c =
    let G = g.G.Graph.graph c.args.self.now.graph.now in
    under_all G.has G.labels c.args.self.now.automaton.now c.args.node c.successors-after.result c.args.states c.loop-label.label
    (λ a w h. let legal = (G.legal c.args.node a w h).1 in omega arith)
    c.successors-after.ensures c.loop-label.invariant
