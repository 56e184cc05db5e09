use Rattle.joins.specs.Sides.{KeptBy, is_first}
use Rattle.joins.proofs.sides.keep.Given as goal

abbrev pub invariant-loop-u : goal.invariant-loop-u
invariant-loop-u l = KeptBy l.initial.words l.words l.start l.u l.rows.width l.mask (is_first l.side)
