use Rattle.std.proofs.Common.{◌≡◌, ℕ, ◌*◌, sym, ap, arith}
use Rattle.graph.specs.declared.sizes.Sizes.{Sizes}
use Rattle.graph.specs.Rows.{in_table}
use Rattle.graph.specs.Tables.{graph_of_table}
use Rattle.graph.proofs.InTable.{room_left}
use Rattle.graph.proofs.OneEdge.{put_taken_new}
use Rattle.graph.proofs.table_graph.SmallTableGraph.put.Goals as goal

pub returns : goal.returns
returns c =
    let s = c.args.self.now in
    let t = c.mark.new.self in
    let e = c.args.e in
    let sizes = c.mark.ensures.sizes in
    let fine = c.in_ok-check_edge.ensures in
    let lacks = sym c.if-test.ensures in
    record {
      puts = (
        put_taken_new (graph_of_table s) e fine.0 (room_left s.sizes.nodes s.sizes.labels (in_table s.sizes.nodes s.sizes.labels s.words) e fine.1 lacks),
        lacks,
        record {
          nodes = ap (λ (z : Sizes 64). z.nodes) sizes;
          labels = ap (λ (z : Sizes 64). z.labels) sizes;
          capacity = ap (λ (z : Sizes 64). z.nodes * z.nodes * z.labels) sizes;
          edges = c.mark.ensures.words;
        },
      );
      roomy = λ p. (let z : ◌≡◌ {A = ℕ} 0 1 = cc in omega arith);
    }
