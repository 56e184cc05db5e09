use Rattle.std.proofs.Common.{◌+◌, true, set, ap, ◌∙◌, arith, length-set}
use Rattle.graph.specs.Edges.{among}
use Rattle.graph.proofs.Among.{among_append, distinct_append}
use Rattle.graph.proofs.OneEdge.{count_put, legal_changed}
use Rattle.graph.proofs.list.EdgeList.append.Goals as goal

pub invariant_of-self : goal.invariant_of-self
invariant_of-self c =
    let s = c.args.self.now in
    let xs = s.slots.now in
    let e = c.args.e in
    let old = among xs s.len in
    let new = among (set xs s.len e) (s.len + 1) in
    let change = among_append xs s.len e c.requires.room in record {
      within = simp length-set (omega arith);
      legal = legal_changed s.sizes.nodes s.sizes.labels e true old new c.requires.legal change s.legal;
      distinct = distinct_append xs s.len e c.requires.room s.distinct c.requires.new;
      counted = count_put s.sizes.nodes s.sizes.labels e old new c.requires.legal c.requires.new change ∙ ap (λ k. k + 1) s.counted;
    }
