use Rattle.std.proofs.Common.{◌≡◌, ℕ, ◌-◌, length, Some, vec_items}
use Rattle.wiring.specs.declared.phases.Phase.TheVariants.{Loading}
use Rattle.wiring.specs.Reading.{Reached}
use Rattle.wiring.proofs.loading.load.Given as goal

abbrev pub invariant-loop : goal.invariant-loop
invariant-loop g l =
    let bs = l.initial.reader.bytes.now in
    (l.reader.phase ≡ Loading)
    × (l.reader.bytes.now ≡ bs)
    × ((m k : ℕ)
    → Reached m k bs l.initial.reader.at (Some (g.G.Graph.graph l.initial.graph)) (vec_items l.initial.refusals)
    → Reached m k bs l.reader.at (Some (g.G.Graph.graph l.graph)) (vec_items l.refusals))

abbrev pub decreases-loop : goal.decreases-loop
decreases-loop g l = length l.reader.bytes.now - l.reader.at
