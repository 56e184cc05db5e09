-- The shape of a query: which variables its atoms join.
--     Atoms                the first and the second variable of each atom, by its number in the text
--     Joins q i x y        atom i joins x to y, its direction aside
--     Chain q S x steps y  the steps lead from x to y by atoms of S
--     Connected q S x y    some chain by atoms of S joins x and y
--     Has q i x            x is one of the variables of atom i
--     Cycle q S            a cycle by atoms of S: an atom from a variable to itself is one, and so are two atoms over one pair
--     Before k             the atoms before the k-th
use Rattle.std.specs.Prelude.{◌≡◌, ℕ, ◌<◌, ◌⊎◌, List, [], ◌∷◌, length}

pub record Atoms : Type 0 where
  pub first : ℕ → ℕ
  pub second : ℕ → ℕ

abbrev pub Joins : Atoms → ℕ → ℕ → ℕ → Type 0
Joins q i x y = ((q.first i ≡ x) × (q.second i ≡ y)) ⊎ ((q.first i ≡ y) × (q.second i ≡ x))

abbrev pub Has : Atoms → ℕ → ℕ → Type 0
Has q i x = (q.first i ≡ x) ⊎ (q.second i ≡ x)

-- a step of a chain: the atom, and the variable that it leads to
pub record Step : Type 0 where
  pub by : ℕ
  pub to : ℕ

abbrev pub Chain : Atoms → (ℕ → Type 0) → ℕ → List Step → ℕ → Type 0
Chain q S x [] y = x ≡ y
Chain q S x (s ∷ ss) y = S s.by × Joins q s.by x s.to × Chain q S s.to ss y

abbrev pub Connected : Atoms → (ℕ → Type 0) → ℕ → ℕ → Type 0
Connected q S x y = (ss : List Step) × Chain q S x ss y

abbrev pub Among : ℕ → List ℕ → Type 0
Among x [] = ⊥
Among x (y ∷ ys) = (x ≡ y) ⊎ Among x ys

abbrev pub Different : List ℕ → Type 0
Different [] = Unit {0}
Different (x ∷ xs) = (Among x xs → ⊥) × Different xs

abbrev pub atoms_of : List Step → List ℕ
atoms_of [] = []
atoms_of (s ∷ ss) = s.by ∷ atoms_of ss

abbrev pub variables_of : List Step → List ℕ
variables_of [] = []
variables_of (s ∷ ss) = s.to ∷ variables_of ss

-- at least one atom; different atoms, different variables; each atom joins a variable to the following one, the last joins back to the first
pub record Cycle (q : Atoms) (S : ℕ → Type 0) : Type 0 where
  pub start : ℕ
  pub steps : List Step
  pub some : 0 < length steps
  pub joins : Chain q S start steps start
  pub atoms : Different (atoms_of steps)
  pub variables : Different (variables_of steps)

abbrev pub Before : ℕ → ℕ → Type 0
Before k i = i < k
