use Rattle.std.proofs.Common.{ℕ, List, refl, subst, arith}
use Rattle.meaning.specs.Paths.{Path}
use Rattle.walk.specs.Moves.{Leads}
use Rattle.walk.proofs.Closure.{seeded_one}
use Rattle.walk.proofs.walks.Walk.run_from.Goals as goal

pub run-requires : goal.run-requires
run-requires g c =
    let n = (g.G.Graph.graph c.args.self.now.graph.now).nodes in
    record {
      scratch = omega arith;
      seeds = (seeded_one c.args.source n _ _ c.fill.new.self c.mark.new.z c.node_count.ensures (omega arith) (c.fill.ensures.after (λ y e. e)) c.mark.ensures).0;
    }

pub returns : goal.returns
returns g c v s =
    let G = g.G.Graph.graph c.args.self.now.graph.now in
    let R = λ (u p : ℕ). (x : List ℕ) × Path G.has u x v × Leads G.labels c.args.self.now.automaton.now p x s in
    let only = (seeded_one c.args.source G.nodes _ _ c.fill.new.self c.mark.new.z c.node_count.ensures (omega arith) (c.fill.ensures.after (λ y e. e)) c.mark.ensures).1 in (
      (λ i. let r = (c.run.ensures v s).0 i in let o = (only r.0 r.1).0 r.3 in
          subst (λ (y : ℕ). R y 0) o.0 (subst (R r.0) o.1 (r.2, r.4, r.5))),
      λ r. (c.run.ensures v s).1 (c.args.source, 0, r.0, (only c.args.source 0).1 (refl, refl), r.1, r.2),
    )
