-- What the checks of a query's shape look for, by the place in the head or the number of the atom.
--     of xs               the atoms of a list of the code's
--     Repeated head i     7: the variable at i stands in the head before
--     Unused xs head i    8: no atom has the variable at i
--     Cyclic xs i         9: atom i makes a cycle with those before it
--     Unconnected xs i    10: atom i's variables are not connected to the first atom's
--     Alone xs head i     11: the variable at i, not the first, shares no atom with an earlier one
use Rattle.std.specs.Prelude.{◌≡◌, ℕ, suc, ◌<◌, List, length, slice_index, slice_index_or}
use Rattle.shapes.specs.declared.checks.Ends.{Ends}
use Rattle.meaning.specs.Shapes.{Atoms, Joins, Has, Connected, Cycle, Before}

abbrev pub blank : Ends
blank = record { first = 0; second = 0 }

abbrev pub of : List Ends → Atoms
of xs = record { first = λ i. (slice_index_or xs i blank).first; second = λ i. (slice_index_or xs i blank).second }

abbrev pub Repeated : List ℕ → ℕ → Type 0
Repeated head i = (j : ℕ) × (j < i) × (slice_index head j ≡ slice_index head i)

-- no atom has the variable x
abbrev pub Absent : List Ends → ℕ → Type 0
Absent xs x = (c : ℕ) → c < length xs → Has (of xs) c x → ⊥

abbrev pub Unused : List Ends → List ℕ → ℕ → Type 0
Unused xs head i = Absent xs (slice_index head i)

abbrev pub Cyclic : List Ends → ℕ → Type 0
Cyclic xs i = Cycle (of xs) (Before (suc i))

abbrev pub Unconnected : List Ends → ℕ → Type 0
Unconnected xs i = ((x y : ℕ) → Has (of xs) 0 x → Has (of xs) i y → Connected (of xs) (Before (length xs)) x y) → ⊥

abbrev pub Alone : List Ends → List ℕ → ℕ → Type 0
Alone xs head i = (0 < i) × ((j c : ℕ) → (j < i) × (c < length xs) × Joins (of xs) c (slice_index head j) (slice_index head i) → ⊥)
