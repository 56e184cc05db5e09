-- The order in which atoms are reached from a variable.
use Rattle.std.specs.Prelude.{◌≡◌, ℕ, ◌<◌, ◌⊎◌, ◌≢◌}
use Rattle.meaning.specs.Shapes.{Atoms, Has}
use Rattle.order.specs.Ranks.{Ranks}
use Rattle.order.specs.Trees.{Tree}

-- The order of the m atoms is a tree, begins at the variable x, and has each atom once.
pub record Ordered (q : Atoms) (m x : ℕ) (a : Ranks) : Type 0 where
  pub tree : Tree q m a
  pub start : a.shared 0 ≡ x
  pub into : (i : ℕ) → i < m → a.at i < m
  pub onto : (c : ℕ) → c < m → a.rank c < m
  pub there : (i : ℕ) → i < m → a.rank (a.at i) ≡ i
  pub back : (c : ℕ) → c < m → a.at (a.rank c) ≡ c

-- Atom d is none of those before rank i.
abbrev pub Late : Ranks → ℕ → ℕ → Type 0
Late a i d = (j : ℕ) → j < i → a.at j ≢ d

-- Atom d has the variable x, or one of an atom before rank i.
abbrev pub Touches : Atoms → ℕ → Ranks → ℕ → ℕ → Type 0
Touches q x a i d = Has q d x ⊎ ((j : ℕ) × (v : ℕ) × (j < i) × Has q (a.at j) v × Has q d v)

-- Each rank has the earliest atom that touches those before it, and its parent is the first of them that has the shared variable.
pub record Chosen (q : Atoms) (m x : ℕ) (a : Ranks) : Type 0 where
  pub earliest : (i d : ℕ) → i < m → d < a.at i → Late a i d → Touches q x a i d → ⊥
  pub parents : (i j : ℕ) → 0 < i → i < m → j < a.parent i → Has q (a.at j) (a.shared i) → ⊥
