use Rattle.std.proofs.Common.{◌≡◌, ℕ, ◌<◌, ◌↔◌, length, get_or}
use Rattle.bits.specs.Bits.{Has}
use Rattle.walk.specs.Moves.{Enters}
use Rattle.walk.proofs.masks.masks.Given as goal

abbrev pub invariant-loop-label : goal.invariant-loop-label
invariant-loop-label l = (length l.states-items ≡ l.labels) × ((q a t : ℕ) → a < l.label → a < q → Has (get_or l.states-items a 0) t ↔ Enters q l.automaton t a)
