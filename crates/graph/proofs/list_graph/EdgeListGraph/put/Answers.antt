use Rattle.std.proofs.Common.{ℕ, ◌<◌, List, length, set, sym, refl, ap, ◌∙◌, arith, length-set}
use Rattle.std.proofs.lemmas.Bool.{leb-false}
use Rattle.meaning.specs.Graphs.{size}
use Rattle.graph.specs.declared.edges.Edge.{Edge}
use Rattle.graph.specs.declared.sizes.Sizes.{Sizes}
use Rattle.graph.specs.Edges.{among}
use Rattle.graph.specs.Lists.{graph_of_list}
use Rattle.graph.proofs.Among.{among_at, among_append}
use Rattle.graph.proofs.OneEdge.{put_taken_there, put_taken_new}
use Rattle.graph.proofs.list_graph.EdgeListGraph.put.Goals as goal

pub returns-in-Some : goal.returns-in-Some
returns-in-Some c =
    let s = c.args.self.now in
    let h = c.in-Some.ensures in
    let fine = c.in_ok-check_edge.ensures in
    let there = among_at s.slots.now s.len c.in-Some.field-0 c.args.e h.0 h.1 in
    record { puts = (put_taken_there (graph_of_list s) c.args.e fine.0 there, there, refl); memory = refl; lender = refl }

pub returns : goal.returns
returns c =
    let s = c.args.self.now in
    let t = c.append.new.self in
    let e = c.args.e in
    let sizes = c.append.ensures.sizes in
    let fine = c.in_ok-check_edge.ensures in
    let room : size (graph_of_list s) < length s.slots.now = omega (arith, leb-false _ _ (sym c.if-is_full.ensures), s.counted) in
    record {
      puts = (
        put_taken_new (graph_of_list s) e fine.0 room,
        c.in_default.ensures,
        record {
          nodes = ap (λ (z : Sizes 1024). z.nodes) sizes;
          labels = ap (λ (z : Sizes 1024). z.labels) sizes;
          capacity = ap length c.append.ensures.slots ∙ simp length-set;
          edges = λ u a v.
              ap (λ (ys : List Edge). among ys t.len u a v) c.append.ensures.slots
              ∙ ap (λ (k : ℕ). among (set s.slots.now s.len e) k u a v) c.append.ensures.len
              ∙ among_append s.slots.now s.len e (leb-false _ _ (sym c.if-is_full.ensures)) u a v;
        },
      );
      memory = c.append.ensures.slots;
      lender = c.append.ensures.lender;
    }
