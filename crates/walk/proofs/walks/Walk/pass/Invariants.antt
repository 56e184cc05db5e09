use Rattle.std.proofs.Common.{◌≡◌, ℕ, ◌<◌, false, cond, get_or, drop}
use Rattle.walk.specs.Walked.{GoesOn, Falls}
use Rattle.walk.proofs.walks.Walk.pass.Given as goal

abbrev pub invariant-loop-node : goal.invariant-loop-node
invariant-loop-node g l =
    let G = g.G.Graph.graph l.self.graph.now in
    GoesOn G.has G.labels l.self.automaton.now G.nodes l.initial.z l.z
    × Falls G.nodes l.initial.z l.z (cond l.any 1 0)
    × (l.any ≡ false → (k : ℕ) → k < l.node → get_or (drop G.nodes l.z) k 0 ≡ 0)
