-- Conjunctive regular path queries over a graph, and their answers.
--     Query              the free variables in the order of the head; how many atoms there are, their variables and their expressions
--     Pair g q c u v     nodes u and v of g are joined by a path that spells a word of atom c's expression
--     Satisfying g q f   the assignment f gives each atom a pair of nodes that is one of its pairs
--     Kept g q c u v     some satisfying assignment gives u to the first variable of atom c, and v to its second
--     Answer g q xs      xs has, in the order of the head, the nodes that some satisfying assignment gives to the free variables
use Rattle.std.specs.Prelude.{◌≡◌, ℕ, ◌<◌, List, length, slice_index}
use Rattle.meaning.specs.Graphs.{Graph}
use Rattle.meaning.specs.Paths.{Joins}
use Rattle.meaning.specs.Shapes.{Atoms}
use Rattle.meaning.specs.Tuples.{node}
use Rattle.meaning.specs.Words.{Regex}

pub record Query : Type 0 where
  pub head : List ℕ
  pub count : ℕ
  pub atoms : Atoms
  pub expression : ℕ → Regex

abbrev pub Pair : Graph → Query → ℕ → ℕ → ℕ → Type 0
Pair g q c u v = (u < g.nodes) × (v < g.nodes) × Joins g.has g.labels (q.expression c) u v

abbrev pub Satisfying : Graph → Query → (ℕ → ℕ) → Type 0
Satisfying g q f = (c : ℕ) → c < q.count → Pair g q c (f (q.atoms.first c)) (f (q.atoms.second c))

abbrev pub Kept : Graph → Query → ℕ → ℕ → ℕ → Type 0
Kept g q c u v = (f : ℕ → ℕ) × Satisfying g q f × (f (q.atoms.first c) ≡ u) × (f (q.atoms.second c) ≡ v)

abbrev pub Answer : Graph → Query → List ℕ → Type 0
Answer g q xs = (f : ℕ → ℕ) × Satisfying g q f × ((i : ℕ) → i < length q.head → f (slice_index q.head i) ≡ node xs i)
