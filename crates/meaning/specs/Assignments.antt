-- Assignments of nodes to variables.
--     Relations           for each atom, by its number in the text, a test of pairs of nodes
--     Satisfies q m r f   the assignment f satisfies the m atoms of q: the relation of each has the pair of nodes that f gives to its two variables
--     Uses q m r c u v    some satisfying assignment gives u to the first variable of atom c, and v to its second
use Rattle.std.specs.Prelude.{◌≡◌, ℕ, ◌<◌, Bool, true}
use Rattle.meaning.specs.Shapes.{Atoms}

abbrev pub Relations : Type 0
Relations = ℕ → ℕ → ℕ → Bool

abbrev pub Satisfies : Atoms → ℕ → Relations → (ℕ → ℕ) → Type 0
Satisfies q m r f = (c : ℕ) → c < m → r c (f (q.first c)) (f (q.second c)) ≡ true

abbrev pub Uses : Atoms → ℕ → Relations → ℕ → ℕ → ℕ → Type 0
Uses q m r c u v = (f : ℕ → ℕ) × Satisfies q m r f × (f (q.first c) ≡ u) × (f (q.second c) ≡ v)
