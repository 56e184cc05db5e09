-- Atoms as a tree: each but the first hangs by one variable on an earlier one and brings a new variable.
use Rattle.std.specs.Prelude.{ℕ, ◌<◌, ◌≢◌}
use Rattle.meaning.specs.Shapes.{Atoms, Joins, Has}
use Rattle.order.specs.Ranks.{Ranks}

-- The first m ranks are a tree: an atom joins the variable that its parent has to another one, which no earlier atom has.
pub record Tree (q : Atoms) (m : ℕ) (a : Ranks) : Type 0 where
  pub before : (i : ℕ) → 0 < i → i < m → a.parent i < i
  pub ends : (i : ℕ) → i < m → Joins q (a.at i) (a.shared i) (a.fresh i)
  pub apart : (i : ℕ) → i < m → a.shared i ≢ a.fresh i
  pub joined : (i : ℕ) → 0 < i → i < m → Has q (a.at (a.parent i)) (a.shared i)
  pub new : (i j : ℕ) → i < m → j < i → Has q (a.at j) (a.fresh i) → ⊥
