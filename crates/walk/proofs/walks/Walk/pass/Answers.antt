use Rattle.std.proofs.Common.{◌≡◌, ℕ, Bool, cond, List, get_or, drop, sym, ap, ◌∙◌, subst, ⊎_elim, arith}
use Rattle.std.proofs.lemmas.Bool.{true≢false, cases_eq}
use Rattle.walk.proofs.Halves.{falls_then}
use Rattle.walk.proofs.walks.Walk.pass.Goals as goal
use Rattle.walk.proofs.walks.Walk.pass.Goals.{then-turn, else-turn}

pub loop-node-preserved : goal.loop-node-preserved
loop-node-preserved g c =
    let N = (g.G.Graph.graph c.args.self.now.graph.now).nodes in
    let i = c.loop-node.invariant in
    let one : Bool → ℕ = λ b. cond {A = ℕ} b 1 0 in
    elim c.if-turn.branch [
      | then-turn w ↦ (
        (λ B k. c.turn.ensures.on B (i.0 B k)),
        falls_then N c.args.z.now c.loop-node.z c.turn.new.z _ _ _ i.1 c.turn.ensures.less (omega (arith, ap one w.any-is, ap one w.if-turn.true)),
        (λ e. absurd (true≢false (sym w.any-is ∙ e))),
      )
      | else-turn w ↦ (
        (λ B k. c.turn.ensures.on B (i.0 B k)),
        falls_then N c.args.z.now c.loop-node.z c.turn.new.z _ _ _ i.1 c.turn.ensures.less (omega (arith, ap one w.any-is)),
        (λ h k l. let q = c.turn.ensures.none w.if-turn.false in
            subst (λ (L : List ℕ). get_or (drop N L) k 0 ≡ 0) (sym q.0)
            (⊎_elim (λ e. subst (λ (y : ℕ). get_or (drop N c.loop-node.z) y 0 ≡ 0) (sym e) q.1) (λ n. i.2 (sym w.any-is ∙ h) k (omega arith)) (cases_eq k c.loop-node.node))),
      )
    ]
