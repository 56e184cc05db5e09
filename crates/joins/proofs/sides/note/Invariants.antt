use Rattle.joins.specs.Sides.{NotedToo, is_first}
use Rattle.joins.proofs.sides.note.Given as goal

abbrev pub invariant-loop-u : goal.invariant-loop-u
invariant-loop-u l = NotedToo l.initial.words l.words l.start l.u l.rows.width l.mask (is_first l.side)
