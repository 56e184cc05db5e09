use Rattle.std.proofs.Common.{◌≡◌, ℕ, ◌+◌, ◌-◌, ◌*◌, ◌≤◌, ◌↔◌, List, length, take, sym, ◌∙◌, subst, arith}
use borrow.Rule.Slice.PartMut.{put_mid}
use Rattle.bits.specs.Rows.{width, Cleared}
use Rattle.meaning.specs.Paths.{Path, Joins}
use Rattle.walk.specs.Moves.{In, Leads, Spells}
use Rattle.walk.specs.Rows.{Kept, RowAt, TableAt}
use Rattle.walk.proofs.Layouts.{kept_spells, part_length, path_below, spells_joins, table_more, table_tells, table_written}
use Rattle.walk.proofs.tables.fill_table.Goals as goal

pub loop-source-preserved : goal.loop-source-preserved
loop-source-preserved g c =
    let G = g.G.Graph.graph c.args.graph.now in
    let m = c.args.automaton.now in
    let n = c.node_count-n.result in
    let t = c.args.scratch in
    let a = c.args.start in
    let row = c.width-row.result in
    let u = c.loop-source.source in
    let X = c.args.words.now in
    let Y = c.loop-source.words in
    let ys = c.run_from.new.z in
    let Y₂ = c.write_row.new.words in
    let k = (t + (n + n)) - t in
    let P = Spells G.has G.labels m in
    let e : k ≡ n + n = omega arith in
    let table : a + n * row ≤ t = subst (λ (w : ℕ). a + n * w ≤ t) (sym c.width-row.ensures) (subst (λ (y : ℕ). a + y * width y ≤ t) (sym c.node_count-n.ensures) c.requires.table) in
    let l : t + (n + n) ≤ length Y = omega arith in
    let l' : t + k ≤ length Y = omega arith in
    let len : length ys ≡ k = c.run_from.auto.z ∙ part_length Y t (t + (n + n)) l in
    let walked = subst (λ (y : ℕ). (v s : ℕ) → In (take y ys) v s ↔ ((x : List ℕ) × Path G.has u x v × Leads G.labels m 0 x s)) (sym c.node_count-n.ensures) (rw (c.new-walk.ensures.graph, c.new-walk.ensures.automaton) at c.run_from.ensures) in
    let Q = Kept (put_mid t k Y ys) t n m.accept in
    let written = subst (λ (w : ℕ). RowAt Q (put_mid t k Y ys) Y₂ (a + u * row) w) (sym c.width-row.ensures) c.write_row.ensures in
    subst (λ (y : ℕ). TableAt P X Y₂ a row (u + 1) t y) e
    (table_more P Q X Y ys Y₂ a row u n t k
    (subst (λ (y : ℕ). TableAt P X Y a row u t y) (sym e) c.loop-source.invariant) len table l' (omega arith) written
    (kept_spells G.has G.labels m Y ys u n t k l' len (omega arith) walked))

pub returns : goal.returns
returns g c =
    let G = g.G.Graph.graph c.args.graph.now in
    let N = G.nodes in
    let m = c.args.automaton.now in
    let n = c.node_count-n.result in
    let t = c.args.scratch in
    let a = c.args.start in
    let row = c.width-row.result in
    let X = c.args.words.now in
    let Y = c.loop-source.words in
    let Y₂ = c.clear.new.words in
    let P = Spells G.has G.labels m in
    let e : c.loop-source.source ≡ n = omega arith in
    let written = subst (λ (w : ℕ). TableAt P X Y a w n t (n + n)) c.width-row.ensures (subst (λ (y : ℕ). TableAt P X Y a row y t (n + n)) e c.loop-source.invariant) in
    let table = subst (λ (y : ℕ). TableAt P X Y a (width y) y t (y + y)) c.node_count-n.ensures written in
    let cleared = subst (λ (y : ℕ). Cleared Y Y₂ t (y + y)) c.node_count-n.ensures c.clear.ensures in
    record {
      pairs = λ r recognizes few. table_tells P X Y Y₂ a N t c.requires.table table cleared (Joins G.has G.labels r) (spells_joins G.has G.labels m r recognizes few);
      written = table_written P X Y Y₂ a N t c.requires.table table cleared (λ u v l s. path_below G.has N (λ x b y h. (G.legal x b y h).2) s.0 u v l s.1);
    }
