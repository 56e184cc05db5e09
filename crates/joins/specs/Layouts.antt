-- The tables of a workspace: for each of m atoms n rows of w words, one table behind the other in the order of the text, and w words of scratch behind them.
--     tables s m n w          the relations that the tables of the workspace s tell
--     Ready s m n w           no table has a bit past the nodes, and the scratch words are 0
--     Reduced q s t m n w p c x   t is s after a semijoin of atom p with atom c at the variable x
use Rattle.std.specs.Prelude.{◌≡◌, ℕ, ◌+◌, ◌*◌, ◌<◌, ◌≤◌, false, ◌&&◌, List, nat_lt, slice_index}
use Rattle.bits.specs.Rows.{row_bit}
use Rattle.meaning.specs.Assignments.{Relations}
use Rattle.meaning.specs.Shapes.{Atoms}
use Rattle.joins.specs.Plans.{Semijoin}

unfoldable pub tables : List ℕ → ℕ → ℕ → ℕ → Relations
tables s m n w c u v = nat_lt c m && (nat_lt u n && (nat_lt v n && row_bit s (c * (n * w) + u * w) v))

pub record Ready (s : List ℕ) (m n w : ℕ) : Type 0 where
  pub clean : (c u v : ℕ) → c < m → u < n → n ≤ v → v < w * 64 → row_bit s (c * (n * w) + u * w) v ≡ false
  pub zero : (k : ℕ) → m * (n * w) ≤ k → k < m * (n * w) + w → slice_index s k ≡ 0

pub record Reduced (q : Atoms) (s t : List ℕ) (m n w p c x : ℕ) : Type 0 where
  pub semi : Semijoin q (tables s m n w) (tables t m n w) p c x
  pub ready : Ready t m n w
  pub rest : (k : ℕ) → m * (n * w) + w ≤ k → slice_index t k ≡ slice_index s k
