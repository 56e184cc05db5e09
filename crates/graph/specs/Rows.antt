-- The edges of a small table, a word for each label and node: bit v of word a * 64 + u is the edge from u under a to v.
--     in_table n q ws   the legal edges whose bit is set
use Rattle.std.specs.Prelude.{ℕ, ◌+◌, ◌*◌, ◌&&◌, List, nat_lt, slice_index}
use Rattle.bits.specs.Bits.{bit}
use Rattle.meaning.specs.Graphs.{Edges}

abbrev pub in_table : ℕ → ℕ → List ℕ → Edges
in_table n q ws u a v = (nat_lt u n && (nat_lt a q && nat_lt v n)) && bit (slice_index ws (a * 64 + u)) v
