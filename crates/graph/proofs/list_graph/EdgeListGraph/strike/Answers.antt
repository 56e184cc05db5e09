use Rattle.std.proofs.Common.{ℕ, ◌-◌, List, length, get_or, set, ap, ◌∙◌, length-set}
use Rattle.graph.specs.declared.edges.Edge.{Edge}
use Rattle.graph.specs.declared.sizes.Sizes.{Sizes}
use Rattle.graph.specs.Edges.{among, blank}
use Rattle.graph.proofs.Among.{among_at, among_remove}
use Rattle.graph.proofs.list_graph.EdgeListGraph.strike.Goals as goal

pub returns-in-Some : goal.returns-in-Some
returns-in-Some c =
    let s = c.args.self.now in
    let t = c.remove.new.self in
    let e = c.args.e in
    let sizes = c.remove.ensures.sizes in
    let h = c.in-Some.ensures in
    let i = c.in-Some.i in
    record {
      strikes = (
        c.in_ok-check_edge.ensures.0,
        among_at s.slots.now s.len i e h.0 h.1,
        record {
          nodes = ap (λ (z : Sizes 1024). z.nodes) sizes;
          labels = ap (λ (z : Sizes 1024). z.labels) sizes;
          capacity = ap length c.remove.ensures.slots ∙ simp length-set;
          edges = λ u a v.
              ap (λ (ys : List Edge). among ys t.len u a v) c.remove.ensures.slots
              ∙ ap (λ (k : ℕ). among (set s.slots.now i (get_or s.slots.now (s.len - 1) blank)) k u a v) c.remove.ensures.len
              ∙ among_remove s.slots.now s.len i s.within h.0 s.distinct e h.1 u a v;
        },
      );
      memory = (i, h.0, h.1, c.remove.ensures.slots);
      lender = c.remove.ensures.lender;
    }
