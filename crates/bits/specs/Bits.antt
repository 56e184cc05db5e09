-- The bits of a word, counted from the lowest.
--     bit w i          whether bit i of w is set
--     Has w i          i is in the set whose members are the set bits of w
--     LowestBit w b r  r is the lowest set bit of w at b or above, or none
--     Takes w r w'     r is the lowest member of w, and w' the set of the others; or w has none
use Rattle.std.specs.Prelude.{◌≡◌, ℕ, ◌/◌, ◌%◌, ◌^◌, ◌<◌, ◌≤◌, Bool, true, false, cond, Some, None, Option, ◌==◌}

unfoldable pub bit : ℕ → ℕ → Bool
bit w i = w / 2 ^ i % 2 == 1

abbrev pub Has : ℕ → ℕ → Type 0
Has w i = bit w i ≡ true

abbrev pub LowestBit : ℕ → ℕ → Option ℕ → Type 0
LowestBit w b None = (i : ℕ) → b ≤ i → bit w i ≡ false
LowestBit w b (Some j) = (b ≤ j) × (bit w j ≡ true) × ((i : ℕ) → b ≤ i → i < j → bit w i ≡ false)

abbrev pub Takes : ℕ → Option ℕ → ℕ → Type 0
Takes w None w' = LowestBit w 0 None
Takes w (Some i) w' = LowestBit w 0 (Some i) × ((j : ℕ) → bit w' j ≡ cond (i == j) false (bit w j))
