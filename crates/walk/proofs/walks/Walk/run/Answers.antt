use Rattle.std.proofs.Common.{◌*◌, ◌^◌, ◌≤◌, take, drop, sum, ◌∙◌, arith}
use Rattle.walk.proofs.Closure.{walked_all, sum_small}
use Rattle.walk.proofs.Halves.{blank, half_length}
use Rattle.walk.proofs.walks.Walk.run.Goals as goal

pub loop-preserved : goal.loop-preserved
loop-preserved g c = (c.pass.auto.z ∙ c.loop.invariant.0, c.pass.ensures.on _ c.loop.invariant.1)

pub loop-smaller : goal.loop-smaller
loop-smaller g c =
    let n = (g.G.Graph.graph c.args.self.now.graph.now).nodes in
    let k = half_length n c.pass.new.z (loop-preserved g c).0 in
    let b : sum (take n c.pass.new.z) ≤ n * 2 ^ 64 = omega (arith, sum_small (take n c.pass.new.z) (loop-preserved g c).1.few) in
    omega (arith, c.loop-test.ensures.less)

pub returns : goal.returns
returns g c v s =
    let G = g.G.Graph.graph c.args.self.now.graph.now in
    let n = G.nodes in
    let Y = c.pass.new.z in
    let done = c.pass.ensures.on (take n c.args.z.now) c.loop.invariant.1 in (
      done.sound v s,
      walked_all G.has G.labels c.args.self.now.automaton.now (take n c.args.z.now) (take n Y) (drop n Y)
          (blank (drop n Y) (λ k h. c.pass.ensures.none c.loop-test.false k (omega (arith, half_length n Y (c.pass.auto.z ∙ c.loop.invariant.0))))) done v s,
    )
