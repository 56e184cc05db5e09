use Rattle.std.proofs.Common.{ℕ, ◌<◌}
use Rattle.shapes.specs.Checks.{of}
use Rattle.order.specs.Steps.{Open}
use Rattle.order.proofs.next_step.Given as goal

abbrev pub invariant-loop-i : goal.invariant-loop-i
invariant-loop-i l = (k : ℕ) → k < l.i → Open (of l.atoms) l.rank l.seen k → ⊥
