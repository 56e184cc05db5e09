use Rattle.std.proofs.Common.{◌+◌, ◌*◌, false, set, arith, length-set}
use Rattle.graph.specs.Rows.{in_table}
use Rattle.graph.proofs.InTable.{table_changed, legal_in_table}
use Rattle.graph.proofs.OneEdge.{count_strike}
use Rattle.graph.proofs.table.SmallTable.unmark.Goals as goal

pub overflow_sub-self : goal.overflow_sub-self
overflow_sub-self c =
    let s = c.args.self.now in
    let e = c.args.e in
    let fit = legal_in_table s.sizes.nodes s.sizes.labels s.words e c.requires.old in
    let ws = set s.words (e.label * 64 + e.from) c.cleared.result in
    let change = table_changed s.sizes.nodes s.sizes.labels s.words e false c.cleared.result s.sizes.sized.1 s.sizes.sized.3 s.wide fit c.cleared.ensures in
    omega (arith, s.counted, count_strike s.sizes.nodes s.sizes.labels e (in_table s.sizes.nodes s.sizes.labels s.words) (in_table s.sizes.nodes s.sizes.labels ws) fit c.requires.old change)

pub invariant_of-self : goal.invariant_of-self
invariant_of-self c =
    let s = c.args.self.now in
    let e = c.args.e in
    let fit = legal_in_table s.sizes.nodes s.sizes.labels s.words e c.requires.old in
    let ws = set s.words (e.label * 64 + e.from) c.cleared.result in
    let change = table_changed s.sizes.nodes s.sizes.labels s.words e false c.cleared.result s.sizes.sized.1 s.sizes.sized.3 s.wide fit c.cleared.ensures in
    let less = count_strike s.sizes.nodes s.sizes.labels e (in_table s.sizes.nodes s.sizes.labels s.words) (in_table s.sizes.nodes s.sizes.labels ws) fit c.requires.old change in
    let was = s.counted in
    record {
      wide = simp length-set s.wide;
      counted = omega (arith, less, was);
    }
