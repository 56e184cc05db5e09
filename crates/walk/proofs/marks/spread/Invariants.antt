use Rattle.std.proofs.Common.{◌≡◌, ◌<◌, ◌≤◌, true}
use Rattle.bits.specs.Bits.{Has}
use Rattle.walk.specs.Marked.{Grew}
use Rattle.walk.proofs.marks.spread.Given as goal

abbrev pub invariant-loop-to : goal.invariant-loop-to
invariant-loop-to g l =
    let i = l.to-iterator in
    (i.graph.now ≡ l.graph)
    × (i.node ≡ l.node)
    × (i.label ≡ l.label)
    × (i.bound ≤ 1024)
    × Grew l.n l.initial.z l.z (λ w s. (w < i.bound) × ((g.G.Graph.graph l.graph).has l.node l.label w ≡ true) × Has l.states s)
