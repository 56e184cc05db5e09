-- The number of each refusal of the file layer.
--     number f   of a fault
use Rattle.std.specs.Prelude.{ℕ}
use Rattle.wiring.specs.declared.faults.Fault.{Fault}
use Rattle.wiring.specs.declared.faults.Fault.TheVariants.{Cut, Malformed, Misplaced, BadSizes, TurnedAway, BadQuery}

abbrev pub number : Fault → ℕ
number Cut = 15
number Malformed = 16
number Misplaced = 17
number (BadSizes f) = 14
number (TurnedAway f) = 18
number (BadQuery f) = 18
