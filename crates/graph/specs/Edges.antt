-- The code's edges, and sets of them.
--     edge u a v       the edge from u under a to v
--     holds E e        whether e is in E
--     is e u a v       whether e leads from u under a to v
--     among xs n e     whether e stands in the first n places of xs
--     leads e u a b    whether e leads from u under a to a node of at least b
--     lowered r v      the lower of v and the node in r, if any
--     Lowest E u a b r r is the lowest node of at least b to which E has an edge from u under a, or none
use Rattle.std.specs.Prelude.{◌≡◌, ℕ, zero, suc, ◌<◌, ◌≤◌, min, Bool, true, false, ◌&&◌, ◌||◌, List, Some, None, Option, ◌==◌, nat_le, slice_index_or}
use Rattle.meaning.specs.Graphs.{Edges}
use Rattle.graph.specs.declared.edges.Edge.{Edge}

abbrev pub edge : ℕ → ℕ → ℕ → Edge
edge u a v = record { from = u; label = a; to = v }

abbrev pub holds : Edges → Edge → Bool
holds E e = E e.from e.label e.to

abbrev pub is : Edge → ℕ → ℕ → ℕ → Bool
is e u a v = e.from == u && (e.label == a && e.to == v)

-- what a place past the end of a list counts as; no rule turns on it
abbrev pub blank : Edge
blank = edge 0 0 0

abbrev pub among : List Edge → ℕ → Edges
among xs zero u a v = false
among xs (suc n) u a v = is (slice_index_or xs n blank) u a v || among xs n u a v

abbrev pub leads : Edge → ℕ → ℕ → ℕ → Bool
leads e u a b = e.from == u && (e.label == a && nat_le b e.to)

abbrev pub lowered : Option ℕ → ℕ → Option ℕ
lowered None v = Some v
lowered (Some w) v = Some (min w v)

abbrev pub Lowest : Edges → ℕ → ℕ → ℕ → Option ℕ → Type 0
Lowest E u a b None = (v : ℕ) → b ≤ v → E u a v ≡ false
Lowest E u a b (Some w) = (b ≤ w) × (E u a w ≡ true) × ((v : ℕ) → b ≤ v → v < w → E u a v ≡ false)
