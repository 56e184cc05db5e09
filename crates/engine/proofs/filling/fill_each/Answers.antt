use Rattle.std.proofs.Common.{◌≡◌, ℕ, ◌*◌, length, ap, ◌∙◌, arith, rules}
use Rattle.bits.specs.Rows.{width}
use Rattle.engine.proofs.Tabling.{raw_next}
use Rattle.engine.proofs.filling.fill_each.Goals as goal

pub loop-c-preserved : goal.loop-c-preserved
loop-c-preserved g c =
    let G = g.G.Graph.graph c.args.graph.now in
    let q = c.args.query.now in
    let n = c.node_count-n.result in
    let long : length q.atoms ≡ 8 = search rules in
    let size : n * c.width.result ≡ G.nodes * width G.nodes = ap (λ (y : ℕ). n * y) c.width.ensures ∙ ap (λ (y : ℕ). y * width y) c.node_count-n.ensures in
    raw_next G q.atoms _ q.count c.loop-c.c c.args.words.now c.loop-c.words c.fill_table.new.words (n * c.width.result) size c.loop-c-test.true (omega arith)
    c.loop-c.invariant c.fill_table.ensures.pairs c.fill_table.ensures.written
