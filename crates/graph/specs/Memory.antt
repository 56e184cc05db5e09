-- What the memory of an edge list holds after a call. It held xs, with edges in the first n places; now it holds ys.
--     PutIn xs n e r ys         after a put of e that answered r: a new edge takes the next place
--     StruckFrom xs n e r ys    after a strike of e that answered r: the last edge moves into e's place
use Rattle.std.specs.Prelude.{◌≡◌, ℕ, ◌-◌, ◌<◌, List, Ok, Err, Result, slice_index_or, slice_set}
use Rattle.graph.specs.declared.edges.Edge.{Edge}
use Rattle.graph.specs.declared.outcomes.Put.{Put}
use Rattle.graph.specs.declared.outcomes.Put.TheVariants.{New, There}
use Rattle.graph.specs.declared.outcomes.Strike.{Strike}
use Rattle.graph.specs.declared.outcomes.Strike.TheVariants.{Gone, NotThere}
use Rattle.graph.specs.declared.outcomes.Fault.{Fault}
use Rattle.graph.specs.Edges.{blank}

abbrev pub PutIn : List Edge → ℕ → Edge → Result Put Fault → List Edge → Type 0
PutIn xs n e (Ok New) ys = ys ≡ slice_set xs n e
PutIn xs n e (Ok There) ys = ys ≡ xs
PutIn xs n e (Err f) ys = ys ≡ xs

abbrev pub StruckFrom : List Edge → ℕ → Edge → Result Strike Fault → List Edge → Type 0
StruckFrom xs n e (Ok Gone) ys =
    (i : ℕ) × (i < n) × (slice_index_or xs i blank ≡ e) × (ys ≡ slice_set xs i (slice_index_or xs (n - 1) blank))
StruckFrom xs n e (Ok NotThere) ys = ys ≡ xs
StruckFrom xs n e (Err f) ys = ys ≡ xs
