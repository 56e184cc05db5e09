-- Sets of nodes noted from, and kept in, one side of a table of n rows of w words. The side true is the first of a pair, its row; the side false the second.
--     is_first s       whether the code's s is the side of the firsts
-- A set of nodes is a row of bits too, at `mask`.
--     Found s start n w side x      some pair of the table at `start` has x on the side
--     RowNoted s t row w mask u     u has joined the set if the row has a bit, and nothing else changed
--     NotedToo s t start n w mask side   the nodes that the table has on the side have joined the set, and nothing else changed
--     Noted s t start n w mask side      the set has just the nodes that the table has on the side, and nothing else changed
--     RowKept s t row w mask u      the row is cleared unless u is in the set, and nothing else changed
--     KeptBy s t start n w mask side     the table keeps the pairs whose node on the side is in the set, and nothing else changed
--     Joined s t into of n w mask a b    the table at `into` keeps the pairs whose node on side a the table at `of` has on side b; the set is empty, and nothing else changed
use Rattle.std.specs.Prelude.{◌≡◌, ℕ, ◌+◌, ◌*◌, ◌<◌, ◌≤◌, Bool, true, false, cond, ◌&&◌, ◌⊎◌, List, slice_index}
use Rattle.bits.specs.Rows.{row_bit, SomeBit}
use Rattle.joins.specs.declared.sides.Side.{Side}
use Rattle.joins.specs.declared.sides.Side.TheVariants.{First, Second}

abbrev pub is_first : Side → Bool
is_first First = true
is_first Second = false

abbrev pub Found : List ℕ → ℕ → ℕ → ℕ → Bool → ℕ → Type 0
Found s start n w side x = (u : ℕ) × (v : ℕ) × (u < n) × (v < w * 64) × (cond side u v ≡ x) × (row_bit s (start + u * w) v ≡ true)

pub record RowNoted (s t : List ℕ) (row w mask u : ℕ) : Type 0 where
  pub some : (x : ℕ) → row_bit t mask x ≡ true → (row_bit s mask x ≡ true) ⊎ ((x ≡ u) × SomeBit s row w)
  pub old : (x : ℕ) → row_bit s mask x ≡ true → row_bit t mask x ≡ true
  pub all : (v : ℕ) → v < w * 64 → row_bit s row v ≡ true → row_bit t mask u ≡ true
  pub rest : (k : ℕ) → (mask ≤ k → k < mask + w → ⊥) → slice_index t k ≡ slice_index s k

pub record NotedToo (s t : List ℕ) (start n w mask : ℕ) (side : Bool) : Type 0 where
  pub some : (x : ℕ) → x < w * 64 → row_bit t mask x ≡ true → (row_bit s mask x ≡ true) ⊎ Found s start n w side x
  pub old : (x : ℕ) → x < w * 64 → row_bit s mask x ≡ true → row_bit t mask x ≡ true
  pub all : (u v : ℕ) → u < n → v < w * 64 → row_bit s (start + u * w) v ≡ true → row_bit t mask (cond side u v) ≡ true
  pub rest : (k : ℕ) → (mask ≤ k → k < mask + w → ⊥) → slice_index t k ≡ slice_index s k

pub record Noted (s t : List ℕ) (start n w mask : ℕ) (side : Bool) : Type 0 where
  pub some : (x : ℕ) → x < w * 64 → row_bit t mask x ≡ true → Found s start n w side x
  pub all : (u v : ℕ) → u < n → v < w * 64 → row_bit s (start + u * w) v ≡ true → row_bit t mask (cond side u v) ≡ true
  pub rest : (k : ℕ) → (mask ≤ k → k < mask + w → ⊥) → slice_index t k ≡ slice_index s k

pub record RowKept (s t : List ℕ) (row w mask u : ℕ) : Type 0 where
  pub bits : (v : ℕ) → v < w * 64 → row_bit t row v ≡ (row_bit s row v && row_bit s mask u)
  pub rest : (k : ℕ) → (row ≤ k → k < row + w → ⊥) → slice_index t k ≡ slice_index s k

pub record KeptBy (s t : List ℕ) (start n w mask : ℕ) (side : Bool) : Type 0 where
  pub bits : (u v : ℕ) → u < n → v < w * 64 → row_bit t (start + u * w) v ≡ (row_bit s (start + u * w) v && row_bit s mask (cond side u v))
  pub rest : (k : ℕ) → (start ≤ k → k < start + n * w → ⊥) → slice_index t k ≡ slice_index s k

pub record Joined (s t : List ℕ) (into of n w mask : ℕ) (a b : Bool) : Type 0 where
  pub kept : (u v : ℕ) → u < n → v < w * 64 → row_bit t (into + u * w) v ≡ true → (row_bit s (into + u * w) v ≡ true) × Found s of n w b (cond a u v)
  pub stays : (u v : ℕ) → u < n → v < w * 64 → row_bit s (into + u * w) v ≡ true → Found s of n w b (cond a u v) → row_bit t (into + u * w) v ≡ true
  pub zero : (k : ℕ) → mask ≤ k → k < mask + w → slice_index t k ≡ 0
  pub rest : (k : ℕ) → (into ≤ k → k < into + n * w → ⊥) → (mask ≤ k → k < mask + w → ⊥) → slice_index t k ≡ slice_index s k
