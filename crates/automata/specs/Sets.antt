-- Sets of positions, as the bits of a word.
--     Linked old new k last first   each row below k that last has gained the set first; nothing else changed
use Rattle.std.specs.Prelude.{ℕ, ◌<◌, ◌⊎◌, ◌↔◌, List, slice_index}
use Rattle.bits.specs.Bits.{Has}

abbrev pub Linked : List ℕ → List ℕ → ℕ → ℕ → ℕ → Type 0
Linked old new k last first = (x q : ℕ) → Has (slice_index new x) q ↔ (Has (slice_index old x) q ⊎ ((x < k) × Has last x × Has first q))
