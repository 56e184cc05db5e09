-- Lists of edges.
--     Before x y       x comes before y: by from, then by label, then by to
--     Lists P xs       xs has exactly the edges of which P holds, each once, rising
--     Wire g e         e is an edge of g
--     WireBelow g b e  e is an edge of g before b
use Rattle.std.specs.Prelude.{◌≡◌, ℕ, ◌<◌, true, ◌⊎◌, List, length, slice_index_or}
use Rattle.meaning.specs.Graphs.{Graph}
use Rattle.graph.specs.declared.edges.Edge.{Edge}
use Rattle.graph.specs.Edges.{holds, blank}

abbrev pub Before : Edge → Edge → Type 0
Before x y =
    (x.from < y.from)
    ⊎ ((x.from ≡ y.from) × ((x.label < y.label) ⊎ ((x.label ≡ y.label) × (x.to < y.to))))

pub record Lists (P : Edge → Type 0) (xs : List Edge) : Type 0 where
  pub rising : (i j : ℕ) → i < j → j < length xs → Before (slice_index_or xs i blank) (slice_index_or xs j blank)
  pub sound : (i : ℕ) → i < length xs → P (slice_index_or xs i blank)
  pub whole : (e : Edge) → P e → (i : ℕ) × (i < length xs) × (slice_index_or xs i blank ≡ e)

abbrev pub Wire : Graph → Edge → Type 0
Wire g e = holds g.has e ≡ true

abbrev pub WireBelow : Graph → Edge → Edge → Type 0
WireBelow g b e = (holds g.has e ≡ true) × Before e b
