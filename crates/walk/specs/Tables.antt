-- A table of pairs of nodes in the workspace: a row of bits for each node, one row after another.
--     Tells P ws start n   the table at `start` tells which pairs P holds of
--     Written old new start n scratch   in new the table at `start` has no pair with a second node of n or more, the scratch words are 0, and every word of neither is as in old
-- Word start + u × W + w tells at bit j of the pair (u, 64 × w + j), where W is the width of a row of n bits; it is bit 64 × w + j of row u.
use Rattle.std.specs.Prelude.{◌≡◌, ℕ, ◌+◌, ◌*◌, ◌<◌, ◌≤◌, true, false, ◌↔◌, List, slice_index}
use Rattle.bits.specs.Rows.{row_bit, width}

abbrev pub Tells : (ℕ → ℕ → Type 0) → List ℕ → ℕ → ℕ → Type 0
Tells P ws start n = (u v : ℕ) → u < n → v < width n * 64 → (row_bit ws (start + u * width n) v ≡ true) ↔ P u v

pub record Written (old new : List ℕ) (start n scratch : ℕ) : Type 0 where
  pub clean : (u v : ℕ) → u < n → n ≤ v → v < width n * 64 → row_bit new (start + u * width n) v ≡ false
  pub idle : (k : ℕ) → scratch ≤ k → k < scratch + (n + n) → slice_index new k ≡ 0
  pub rest : (k : ℕ) → (start ≤ k → k < start + n * width n → ⊥) → (scratch ≤ k → k < scratch + (n + n) → ⊥) → slice_index new k ≡ slice_index old k
