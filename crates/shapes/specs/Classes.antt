-- A number for each variable, equal for two variables just if the atoms before k connect them.
use Rattle.std.specs.Prelude.{◌≡◌, ℕ, ◌<◌, cond, List, ◌==◌, slice_index}
use Rattle.meaning.specs.Shapes.{Atoms, Connected, Before}

pub record Classes (q : Atoms) (k : ℕ) (class : List ℕ) : Type 0 where
  pub bytes : (i : ℕ) → i < k → (q.first i < 256) × (q.second i < 256)
  pub respects : (i : ℕ) → i < k → slice_index class (q.first i) ≡ slice_index class (q.second i)
  pub sound : (x y : ℕ) → x < 256 → y < 256 → slice_index class x ≡ slice_index class y → Connected q (Before k) x y

-- the class from is now the class into
abbrev pub Merged : List ℕ → List ℕ → ℕ → ℕ → Type 0
Merged old new from into = (v : ℕ) → v < 256 → slice_index new v ≡ cond (slice_index old v == from) into (slice_index old v)
