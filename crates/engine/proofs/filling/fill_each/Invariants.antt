use Rattle.engine.specs.Filled.{Raw}
use Rattle.engine.proofs.filling.fill_each.Given as goal

abbrev pub invariant-loop-c : goal.invariant-loop-c
invariant-loop-c g l = Raw (g.G.Graph.graph l.graph) l.query.atoms l.query.count l.initial.words l.words l.c
