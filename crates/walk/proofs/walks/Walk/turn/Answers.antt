use Rattle.std.proofs.Common.{ℕ, ◌+◌, ◌<◌, length, get_or, take, drop, set, refl, subst, arith}
use Rattle.std.proofs.lemmas.List.{get_or-drop}
use Rattle.std.proofs.lemmas.List.Sums.{sum_by-set}
use Rattle.std.proofs.lemmas.Bool.{true≢false}
use Rattle.bits.specs.Bits.{Has}
use Rattle.walk.specs.Marked.{Grew}
use Rattle.walk.specs.Moves.{Moves}
use Rattle.walk.proofs.Closure.{walked_more}
use Rattle.walk.proofs.Halves.{halved, half_length}
use Rattle.walk.proofs.walks.Walk.turn.Goals as goal

pub returns : goal.returns
returns g c =
    let G = g.G.Graph.graph c.args.self.now.graph.now in
    let N = G.nodes in
    let v = c.args.node in
    let Z = c.args.z.now in
    let Y = c.step.new.z in
    let m = c.args.self.now.automaton.now in
    let B = λ (x w t : ℕ). (s : ℕ) × Has x s × Moves G.has G.labels m v s w t in
    let l = half_length N Z c.requires.scratch in
    let b : v < length (drop N Z) = omega arith in
    let e = c.node_count-n.ensures in
    let grown = halved N N refl Z Y v B (subst (λ (y : ℕ). Grew N (set Z (y + v) 0) Y (B (get_or Z (y + v) 0))) e c.step.ensures) in
    let some : 0 < get_or (drop N Z) v 0 = rw get_or-drop (subst (λ (y : ℕ). 0 < get_or Z (y + v) 0) e (omega arith)) in
    record {
      on = λ S k. walked_more G.has G.labels m S (take N Z) (drop N Z) (take N Y) (drop N Y) v b k grown;
      less = omega (arith, grown.less, sum_by-set (λ x. x) (drop N Z) v 0 0 b);
      none = λ f. absurd (true≢false f);
    }
