use Rattle.walk.specs.Marked.{Grew}
use Rattle.walk.proofs.Stepping.{Under}
use Rattle.walk.proofs.walks.Walk.step.Given as goal

abbrev pub invariant-loop-label : goal.invariant-loop-label
invariant-loop-label g l =
    Grew (g.G.Graph.graph l.self.graph.now).nodes l.initial.z l.z (Under (g.G.Graph.graph l.self.graph.now).has (g.G.Graph.graph l.self.graph.now).labels l.self.automaton.now l.node l.after l.label)
