-- The graph that a small table stands for; it has room for every legal edge.
use Rattle.std.specs.Prelude.{◌*◌}
use Rattle.std.proofs.Common.{arith}
use Rattle.std.proofs.lemmas.Bool.{and_parts, ltb-true}
use Rattle.meaning.specs.Graphs.{Graph}
use Rattle.meaning.proofs.Counts.{count_bound}
use Rattle.graph.specs.declared.table.SmallTable.{SmallTable}
use Rattle.graph.specs.Rows.{in_table}

abbrev pub graph_of_table : SmallTable → Graph
graph_of_table t = record {
  nodes = t.sizes.nodes;
  labels = t.sizes.labels;
  capacity = t.sizes.nodes * t.sizes.nodes * t.sizes.labels;
  has = in_table t.sizes.nodes t.sizes.labels t.words;
  sized = let s = t.sizes.sized in (s.0, omega arith, s.2, s.3);
  legal = λ u a v h.
      let p = and_parts _ _ (and_parts _ _ h).0 in
      let r = and_parts _ _ p.1 in
      (ltb-true u t.sizes.nodes p.0, ltb-true a t.sizes.labels r.0, ltb-true v t.sizes.nodes r.1);
  fits = count_bound t.sizes.nodes t.sizes.labels (in_table t.sizes.nodes t.sizes.labels t.words);
}
