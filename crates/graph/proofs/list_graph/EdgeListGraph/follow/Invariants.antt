use Rattle.graph.specs.Edges.{among, Lowest}
use Rattle.graph.proofs.list_graph.EdgeListGraph.follow.Given as goal

abbrev pub invariant-loop-e : goal.invariant-loop-e
invariant-loop-e l = Lowest (among l.self.slots.now l.e-index) l.node l.label l.bound l.best
