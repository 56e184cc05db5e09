-- The numbers and places of what the reader refuses.
use Rattle.std.specs.Prelude.{ℕ}
use Rattle.query.specs.declared.drafts.Fault.{Fault}
use Rattle.query.specs.declared.drafts.Fault.TheVariants.{NoQuery, TooLarge}

-- The number of a fault, and its place in the text.
abbrev pub fault_number : Fault → ℕ
fault_number (NoQuery e) = 5
fault_number (TooLarge p) = 6

abbrev pub fault_place : Fault → ℕ
fault_place (NoQuery e) = e
fault_place (TooLarge p) = p
