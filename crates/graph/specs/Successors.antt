-- The nodes to which edges lead from a node under a label, one after the other.
--     Follows g u a b r b'   r is the lowest of them from b on, and the next is looked for from b' on; or there is none
--     left b                 how many nodes there may be from b on
use Rattle.std.specs.Prelude.{◌≡◌, ℕ, ◌+◌, ◌-◌, Some, None, Option}
use Rattle.meaning.specs.Graphs.{Graph}
use Rattle.graph.specs.Edges.{Lowest}

abbrev pub Follows : Graph → ℕ → ℕ → ℕ → Option ℕ → ℕ → Type 0
Follows g u a b None b' = Lowest g.has u a b None
Follows g u a b (Some v) b' = Lowest g.has u a b (Some v) × (b' ≡ v + 1)

abbrev pub left : ℕ → ℕ
left b = 1024 - b
