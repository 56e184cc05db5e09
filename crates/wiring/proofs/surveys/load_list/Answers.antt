use Rattle.std.proofs.Common.{◌≡◌, length, ◌∙◌}
use Rattle.std.proofs.lemmas.Result.{IfOk-weaker, err_from_is_err_and}
use Rattle.meaning.specs.Graphs.{New}
use Rattle.graph.specs.Lists.{graph_of_list}
use Rattle.wiring.proofs.surveys.load_list.Goals as goal

pub returns-in_err-load : goal.returns-in_err-load
returns-in_err-load c =
    let e = err_from_is_err_and c.from_residual-in_err-load.result c.from_residual-in_err-load.ensures.1 in
    rw e.1 tt

pub returns : goal.returns
returns c =
    let new = c.new-list.ensures.graph in
    let long : length c.as_mut_slice.result.now ≡ 4096
    = c.as_mut_slice.ensures.len ∙ c.in_ok-memory.ensures.len in
    let empty : New (graph_of_list c.new-list.result) c.args.sizes.nodes c.args.sizes.labels 4096 = record {
      nodes = new.nodes;
      labels = new.labels;
      capacity = new.capacity ∙ long;
      none = new.none;
    } in
    IfOk-weaker c.wires.result _ _
    (λ v lists m start.
    (graph_of_list c.load.new.graph, c.in_ok-load.ensures m 4096 (start (graph_of_list c.new-list.result) empty), lists))
    c.wires.ensures
