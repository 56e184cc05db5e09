use Rattle.std.proofs.Common.{◌≡◌, ℕ, ◌+◌, List, length, sym, ap, ◌∙◌, subst}
use Rattle.bits.specs.Rows.{width}
use Rattle.meaning.specs.Words.{one, any}
use Rattle.shapes.specs.declared.checks.Ends.{Ends}
use Rattle.shapes.specs.Checks.{of}
use Rattle.query.specs.Limits.{number}
use Rattle.query.specs.Queries.{names}
use Rattle.parse.specs.Meanings.{meaning}
use Rattle.parse.specs.Shaping.{ends, no_atom}
use Rattle.parse.proofs.Meant.{recognized}
use Rattle.parse.proofs.Shaped.{ends_are, ends_long, number_some}
use Rattle.joins.specs.Passes.{Passed}
use Rattle.engine.specs.Filled.{Raw}
use Rattle.engine.proofs.Tabling.{filled_from}
use Rattle.engine.proofs.filling.fill_tables.Goals as goal

pub returns : goal.returns
returns g c xs a =
    let G = g.G.Graph.graph c.args.graph.now in
    let p = c.args.parsed.now in
    let m = p.query.count in
    let n = c.of.result.count in
    let nodes = c.of.ensures.count ∙ c.node_count-n.ensures in
    let W = c.of.result.width in
    let wide : W ≡ width n = c.of.ensures.width ∙ ap width (sym c.of.ensures.count) in
    let X = c.reduce_all.new.words in
    let Y = c.fill_each.new.words in
    let E = c.ends-pairs.result in
    let s = a.atoms in
    let same = ends_are E a.holds c.ends-pairs.ensures.long c.ends-pairs.ensures.each in
    let passed = subst (λ (y : ℕ). Passed (of (ends s)) (number s) Y X y (width y)) nodes
    (subst (λ (y : ℕ). Passed (of (ends s)) (number s) Y X n y) wide
    (subst (λ (y : ℕ). Passed (of (ends s)) y Y X n W) (ends_long s)
    (subst (λ (y : List Ends). Passed (of y) (length y) Y X n W) same c.reduce_all.ensures))) in
    let raw = subst (λ (y : ℕ). Raw G p.query.atoms y c.args.words.now Y y) a.holds.count c.fill_each.ensures in
    filled_from G p.query.atoms no_atom (meaning a.head s) c.args.words.now Y X raw
    (λ d l. recognized no_atom p.query.atoms (length (names a.head) + 1) s (a.holds.rows no_atom) (one any) d l) (number_some s) passed
