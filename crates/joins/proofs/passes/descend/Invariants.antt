use Rattle.std.proofs.Common.{length}
use Rattle.joins.specs.Passes.{Descended}
use Rattle.order.specs.Ranks.{ranks}
use Rattle.shapes.specs.Checks.{of}
use Rattle.joins.proofs.passes.descend.Given as goal

abbrev pub invariant-loop-i : goal.invariant-loop-i
invariant-loop-i l =
    Descended (of l.atoms) (length l.atoms) (ranks l.order) l.initial.words l.words l.rows.count l.rows.width l.i
