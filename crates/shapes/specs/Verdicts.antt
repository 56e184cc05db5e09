-- The checks of a query's shape, in their order.
--     number f              the number of a fault
--     Distinct, Used, Acyclic, AllConnected, FreeConnex   a check finds nothing
--     Verdict head xs r     r is what the first check that finds something finds, or all of them find nothing
use Rattle.std.specs.Prelude.{ℕ, List, length, Some, None, Ok, Err, Result}
use Rattle.meaning.specs.Firsts.{FirstAt}
use Rattle.shapes.specs.declared.checks.Ends.{Ends}
use Rattle.shapes.specs.declared.verdicts.Fault.{Fault}
use Rattle.shapes.specs.declared.verdicts.Fault.TheVariants.{RepeatedVariable, UnusedVariable, CyclicAtom, UnconnectedAtom, LoneVariable}
use Rattle.shapes.specs.Checks.{Repeated, Unused, Cyclic, Unconnected, Alone}

abbrev pub number : Fault → ℕ
number (RepeatedVariable i) = 7
number (UnusedVariable i) = 8
number (CyclicAtom i) = 9
number (UnconnectedAtom i) = 10
number (LoneVariable i) = 11

abbrev pub Distinct : List ℕ → Type 0
Distinct head = FirstAt (Repeated head) (length head) None

abbrev pub Used : List Ends → List ℕ → Type 0
Used xs head = FirstAt (Unused xs head) (length head) None

abbrev pub Acyclic : List Ends → Type 0
Acyclic xs = FirstAt (Cyclic xs) (length xs) None

abbrev pub AllConnected : List Ends → Type 0
AllConnected xs = FirstAt (Unconnected xs) (length xs) None

abbrev pub FreeConnex : List Ends → List ℕ → Type 0
FreeConnex xs head = FirstAt (Alone xs head) (length head) None

abbrev pub Verdict : List ℕ → List Ends → Result (Unit {0}) Fault → Type 0
Verdict head xs (Ok _) = Distinct head × Used xs head × Acyclic xs × AllConnected xs × FreeConnex xs head
Verdict head xs (Err (RepeatedVariable i)) = FirstAt (Repeated head) (length head) (Some i)
Verdict head xs (Err (UnusedVariable i)) = Distinct head × FirstAt (Unused xs head) (length head) (Some i)
Verdict head xs (Err (CyclicAtom i)) = Distinct head × Used xs head × FirstAt (Cyclic xs) (length xs) (Some i)
Verdict head xs (Err (UnconnectedAtom i)) = Distinct head × Used xs head × Acyclic xs × FirstAt (Unconnected xs) (length xs) (Some i)
Verdict head xs (Err (LoneVariable i)) =
    Distinct head × Used xs head × Acyclic xs × AllConnected xs × FirstAt (Alone xs head) (length head) (Some i)
