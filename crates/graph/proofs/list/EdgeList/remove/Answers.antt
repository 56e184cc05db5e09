use Rattle.std.proofs.Common.{◌-◌, false, get_or, set, refl, arith, length-set}
use Rattle.graph.specs.Edges.{among, blank}
use Rattle.graph.proofs.Among.{among_at, among_remove, distinct_remove}
use Rattle.graph.proofs.OneEdge.{count_strike, legal_changed}
use Rattle.graph.proofs.list.EdgeList.remove.Goals as goal

pub invariant_of-self : goal.invariant_of-self
invariant_of-self c =
    let s = c.args.self.now in
    let xs = s.slots.now in
    let i = c.args.i in
    let e = get_or xs i blank in
    let old = among xs s.len in
    let new = among (set xs i (get_or xs (s.len - 1) blank)) (s.len - 1) in
    let there = among_at xs s.len i e c.requires refl in
    let fit = s.legal e there in
    let change = among_remove xs s.len i s.within c.requires s.distinct e refl in
    let less = count_strike s.sizes.nodes s.sizes.labels e old new fit there change in
    let was = s.counted in record {
      within = simp length-set (omega arith);
      legal = legal_changed s.sizes.nodes s.sizes.labels e false old new fit change s.legal;
      distinct = distinct_remove xs s.len i s.within c.requires s.distinct;
      counted = omega (arith, less, was);
    }
