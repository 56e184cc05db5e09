-- The number of each refusal.
--     number f        of a fault of put or strike
--     size_number f   of a fault of the sizes
use Rattle.std.specs.Prelude.{ℕ}
use Rattle.graph.specs.declared.outcomes.Fault.{Fault}
use Rattle.graph.specs.declared.outcomes.Fault.TheVariants.{Node, Label, Full}
use Rattle.graph.specs.declared.outcomes.SizeFault.{SizeFault}
use Rattle.graph.specs.declared.outcomes.SizeFault.TheVariants.{Nodes, Labels}

abbrev pub number : Fault → ℕ
number Node = 1
number Label = 2
number Full = 3

abbrev pub size_number : SizeFault → ℕ
size_number Nodes = 14
size_number Labels = 14
