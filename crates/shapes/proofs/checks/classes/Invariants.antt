use Rattle.std.proofs.Common.{◌≡◌, length}
use Rattle.meaning.specs.Shapes.{Cycle, Before}
use Rattle.shapes.specs.Checks.{of}
use Rattle.shapes.specs.Classes.{Classes}
use Rattle.shapes.proofs.checks.classes.Given as goal

abbrev pub invariant-loop-i : goal.invariant-loop-i
invariant-loop-i l = (length l.class ≡ 256) × (Cycle (of l.atoms) (Before l.i) → ⊥) × Classes (of l.atoms) l.i l.class
