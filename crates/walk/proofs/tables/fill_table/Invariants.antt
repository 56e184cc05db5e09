use Rattle.std.proofs.Common.{◌+◌}
use Rattle.walk.specs.Moves.{Spells}
use Rattle.walk.specs.Rows.{TableAt}
use Rattle.walk.proofs.tables.fill_table.Given as goal

abbrev pub invariant-loop-source : goal.invariant-loop-source
invariant-loop-source g l =
    let G = g.G.Graph.graph l.graph in
    TableAt (Spells G.has G.labels l.automaton) l.initial.words l.words l.start l.row l.source l.scratch (l.n + l.n)
