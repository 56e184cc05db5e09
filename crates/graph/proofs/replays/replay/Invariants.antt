use Rattle.std.proofs.Common.{◌≤◌, take}
use Rattle.graph.specs.Runs.{Replays}
use Rattle.graph.proofs.replays.replay.Given as goal

abbrev pub invariant-loop-change : goal.invariant-loop-change
invariant-loop-change g l =
    (l.tally.new ≤ l.change-index)
    × (l.tally.gone ≤ l.change-index)
    × Replays (g.G.Graph.graph l.initial.graph) (take l.change-index l.changes) l.tally.new l.tally.gone (g.G.Graph.graph l.graph)
