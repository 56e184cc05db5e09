use Rattle.std.proofs.Common.{◌+◌, ◌*◌, true, set, ap, ◌∙◌, arith, length-set}
use Rattle.graph.specs.Rows.{in_table}
use Rattle.graph.proofs.InTable.{table_changed, count_small}
use Rattle.graph.proofs.OneEdge.{count_put}
use Rattle.graph.proofs.table.SmallTable.mark.Goals as goal

pub overflow_add-self : goal.overflow_add-self
overflow_add-self c =
    let s = c.args.self.now in
    omega (arith, s.counted, count_small s.sizes.nodes s.sizes.labels (in_table s.sizes.nodes s.sizes.labels s.words) s.sizes.sized.1 s.sizes.sized.3)

pub invariant_of-self : goal.invariant_of-self
invariant_of-self c =
    let s = c.args.self.now in
    let e = c.args.e in
    let ws = set s.words (e.label * 64 + e.from) c.marked.result in
    let change = table_changed s.sizes.nodes s.sizes.labels s.words e true c.marked.result s.sizes.sized.1 s.sizes.sized.3 s.wide c.requires.legal c.marked.ensures in record {
      wide = simp length-set s.wide;
      counted = count_put s.sizes.nodes s.sizes.labels e (in_table s.sizes.nodes s.sizes.labels s.words) (in_table s.sizes.nodes s.sizes.labels ws) c.requires.legal c.requires.new change
          ∙ ap (λ k. k + 1) s.counted;
    }
