-- Rows of bits in a list of words. A row begins at a word; bit i of the row is bit i % 64 of the word that stands i / 64 places further on.
--     row_bit ws start i       bit i of the row that begins at word `start`
--     width n                  how many words a row of n bits takes: n / 64, rounded up
--     RowSet old new start i   bit i of the row is set; every other bit of the row, and every other word, is as it was
--     Cleared old new start k  the k words from `start` on are 0, and every other word is as it was
--     Narrowed old new row mask k  the row of k words at `row` keeps the bits that the one at `mask` has; every other word is as it was
--     Widened old new row mask k   the row of k words at `mask` takes on the bits of the one at `row`; every other word is as it was
--     SomeBit ws start k       some bit of the row of k words is set
use Rattle.std.specs.Prelude.{◌≡◌, ℕ, ◌+◌, ◌*◌, ◌/◌, ◌%◌, ◌<◌, ◌≤◌, Bool, true, cond, ◌&&◌, ◌||◌, List, ◌==◌, ◌≢◌, slice_index}
use Rattle.bits.specs.Bits.{bit}

abbrev pub row_bit : List ℕ → ℕ → ℕ → Bool
row_bit ws start i = bit (slice_index ws (start + i / 64)) (i % 64)

abbrev pub width : ℕ → ℕ
width n = (n + 63) / 64

pub record RowSet (old new : List ℕ) (start i : ℕ) : Type 0 where
  pub row : (j : ℕ) → row_bit new start j ≡ cond (i == j) true (row_bit old start j)
  pub rest : (k : ℕ) → (k ≢ start + i / 64) → slice_index new k ≡ slice_index old k

pub record Cleared (old new : List ℕ) (start count : ℕ) : Type 0 where
  pub zero : (k : ℕ) → start ≤ k → k < start + count → slice_index new k ≡ 0
  pub rest : (k : ℕ) → (start ≤ k → k < start + count → ⊥) → slice_index new k ≡ slice_index old k

pub record Narrowed (old new : List ℕ) (row mask count : ℕ) : Type 0 where
  pub bits : (i : ℕ) → i < count * 64 → row_bit new row i ≡ (row_bit old row i && row_bit old mask i)
  pub rest : (k : ℕ) → (row ≤ k → k < row + count → ⊥) → slice_index new k ≡ slice_index old k

pub record Widened (old new : List ℕ) (row mask count : ℕ) : Type 0 where
  pub bits : (i : ℕ) → i < count * 64 → row_bit new mask i ≡ (row_bit old mask i || row_bit old row i)
  pub rest : (k : ℕ) → (mask ≤ k → k < mask + count → ⊥) → slice_index new k ≡ slice_index old k

abbrev pub SomeBit : List ℕ → ℕ → ℕ → Type 0
SomeBit ws start count = (i : ℕ) × (i < count * 64) × (row_bit ws start i ≡ true)
