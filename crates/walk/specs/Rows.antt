-- Rows of a table while it is written.
--     Kept Z scratch n accept x      x is a node, and a state of `accept` is seen there
--     Upto P i x                     x is below i, and P holds of it
--     RowAt P Z Z' start k           the k words from `start` on are a row that tells of what P holds, and every other word is as it was
--     TableAt P Z Z' start k i scratch m   the first i rows of a table of rows of k words are written; of the other words only the m scratch words may differ
use Rattle.std.specs.Prelude.{◌≡◌, ℕ, ◌+◌, ◌*◌, ◌<◌, ◌≤◌, true, ◌↔◌, List, slice_index}
use Rattle.bits.specs.Bits.{Has}
use Rattle.bits.specs.Rows.{row_bit}

abbrev pub Kept : List ℕ → ℕ → ℕ → ℕ → ℕ → Type 0
Kept Z scratch n accept x = (x < n) × ((s : ℕ) × Has (slice_index Z (scratch + x)) s × Has accept s)

abbrev pub Upto : (ℕ → Type 0) → ℕ → ℕ → Type 0
Upto P i x = (x < i) × P x

pub record RowAt (P : ℕ → Type 0) (Z Z' : List ℕ) (start k : ℕ) : Type 0 where
  pub bits : (x : ℕ) → x < k * 64 → (row_bit Z' start x ≡ true) ↔ P x
  pub rest : (i : ℕ) → (start ≤ i → i < start + k → ⊥) → slice_index Z' i ≡ slice_index Z i

pub record TableAt (P : ℕ → ℕ → Type 0) (Z Z' : List ℕ) (start k n scratch m : ℕ) : Type 0 where
  pub bits : (u x : ℕ) → u < n → x < k * 64 → (row_bit Z' (start + u * k) x ≡ true) ↔ P u x
  pub rest : (i : ℕ) → (start ≤ i → i < start + n * k → ⊥) → (scratch ≤ i → i < scratch + m → ⊥) → slice_index Z' i ≡ slice_index Z i
