-- The graph that an edge list stands for: the edges in the first places of its memory.
use Rattle.std.proofs.Common.{arith}
use Rattle.std.specs.Prelude.{length}
use Rattle.meaning.specs.Graphs.{Graph}
use Rattle.graph.specs.declared.list.EdgeList.{EdgeList}
use Rattle.graph.specs.Edges.{among, edge}

abbrev pub graph_of_list : EdgeList → Graph
graph_of_list m = record {
  nodes = m.sizes.nodes;
  labels = m.sizes.labels;
  capacity = length m.slots.now;
  has = among m.slots.now m.len;
  sized = m.sizes.sized;
  legal = λ u a v h. m.legal (edge u a v) h;
  fits = let count = m.counted in let within = m.within in omega arith;
}
