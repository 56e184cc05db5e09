-- Paths, and the pairs of nodes that an expression joins.
--     Path E u w v     a path by edges of E from u to v whose labels are w; nodes and edges may repeat
--     Joins E q r u v  some path from u to v spells a word of r, over q labels: the result of the regular path query r
-- The empty word is the path of length 0 from a node to itself.
use Rattle.std.specs.Prelude.{◌≡◌, ℕ, true, List, [], ◌∷◌}
use Rattle.meaning.specs.Graphs.{Edges}
use Rattle.meaning.specs.Words.{Regex, Lang}

abbrev pub Path : Edges → ℕ → List ℕ → ℕ → Type 0
Path E u [] v = u ≡ v
Path E u (a ∷ w) v = (x : ℕ) × (E u a x ≡ true) × Path E x w v

abbrev pub Joins : Edges → ℕ → Regex → ℕ → ℕ → Type 0
Joins E q r u v = (w : List ℕ) × Path E u w v × Lang q r w
