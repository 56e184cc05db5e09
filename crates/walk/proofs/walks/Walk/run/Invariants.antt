use Rattle.std.proofs.Common.{◌≡◌, ◌+◌, ◌-◌, ◌*◌, ◌^◌, length, take, drop, sum}
use Rattle.walk.specs.Walked.{Walked}
use Rattle.walk.proofs.walks.Walk.run.Given as goal

abbrev pub invariant-loop : goal.invariant-loop
invariant-loop g l =
    let G = g.G.Graph.graph l.self.graph.now in
    (length l.z ≡ G.nodes + G.nodes)
    × Walked G.has G.labels l.self.automaton.now (take G.nodes l.initial.z) (take G.nodes l.z) (drop G.nodes l.z)

-- the words seen have room for so much, and so much waits
abbrev pub decreases-loop : goal.decreases-loop
decreases-loop g l = let n = (g.G.Graph.graph l.self.graph.now).nodes in (n * 2 ^ 64 - sum (take n l.z)) + sum (drop n l.z)
