use Rattle.bits.specs.Rows.{width}
use Rattle.walk.specs.Rows.{Kept, Upto, RowAt}
use Rattle.walk.proofs.tables.write_row.Given as goal

abbrev pub invariant-loop-v : goal.invariant-loop-v
invariant-loop-v l = RowAt (Upto (Kept l.initial.words l.scratch l.n l.accept) l.v) l.initial.words l.words l.start (width l.n)
