-- What the calls of a graph do.
--     edge_refusals n q e   the table of refusals for an edge in a graph of n nodes and q labels
--     room_refusals g e     the table of refusals for want of room
--     strike_refusals g e, put_refusals g e   the tables of refusals of the calls
--     Checks n q e r     r is the check of an edge by its numbers
--     Only e b g h       h is g but for the edge e, which it has exactly if b
--     Puts g e r h       a put of e to g that answers r leaves h
--     Strikes g e r h    a strike of e from g that answers r leaves h
--     BadSizes m n q f   the first of the sizes n and q that is out of range, where m nodes are allowed
use Rattle.std.specs.Prelude.{◌≡◌, ℕ, ◌≤◌, Bool, true, false, cond, not, ◌&&◌, ◌||◌, List, [], ◌∷◌, ◌++◌, Some, None, Ok, Err, Result, nat_le}
use Rattle.meaning.specs.Graphs.{Graph, Legal, size}
use Rattle.meaning.specs.Refusals.{first}
use Rattle.graph.specs.declared.edges.Edge.{Edge}
use Rattle.graph.specs.declared.outcomes.Put.{Put}
use Rattle.graph.specs.declared.outcomes.Put.TheVariants.{New, There}
use Rattle.graph.specs.declared.outcomes.Strike.{Strike}
use Rattle.graph.specs.declared.outcomes.Strike.TheVariants.{Gone, NotThere}
use Rattle.graph.specs.declared.outcomes.Fault.{Fault}
use Rattle.graph.specs.declared.outcomes.SizeFault.{SizeFault}
use Rattle.graph.specs.declared.outcomes.SizeFault.TheVariants.{Nodes, Labels}
use Rattle.graph.specs.Edges.{holds, is}
use Rattle.graph.specs.Numbers.{number}

abbrev pub edge_refusals : ℕ → ℕ → Edge → List (ℕ × Bool)
edge_refusals n q e = (1, nat_le n e.from || nat_le n e.to) ∷ ((2, nat_le q e.label) ∷ [])

abbrev pub strike_refusals : Graph → Edge → List (ℕ × Bool)
strike_refusals g e = edge_refusals g.nodes g.labels e

abbrev pub room_refusals : Graph → Edge → List (ℕ × Bool)
room_refusals g e = (3, not (holds g.has e) && nat_le g.capacity (size g)) ∷ []

abbrev pub put_refusals : Graph → Edge → List (ℕ × Bool)
put_refusals g e = edge_refusals g.nodes g.labels e ++ room_refusals g e

pub record Only (e : Edge) (b : Bool) (g h : Graph) : Type 0 where
  pub nodes : h.nodes ≡ g.nodes
  pub labels : h.labels ≡ g.labels
  pub capacity : h.capacity ≡ g.capacity
  pub edges : (u a v : ℕ) → h.has u a v ≡ cond (is e u a v) b (g.has u a v)

abbrev pub Puts : Graph → Edge → Result Put Fault → Graph → Type 0
Puts g e (Ok New) h = (first (put_refusals g e) ≡ None) × (holds g.has e ≡ false) × Only e true g h
Puts g e (Ok There) h = (first (put_refusals g e) ≡ None) × (holds g.has e ≡ true) × (h ≡ g)
Puts g e (Err f) h = (first (put_refusals g e) ≡ Some (number f)) × (h ≡ g)

abbrev pub Strikes : Graph → Edge → Result Strike Fault → Graph → Type 0
Strikes g e (Ok Gone) h = (first (strike_refusals g e) ≡ None) × (holds g.has e ≡ true) × Only e false g h
Strikes g e (Ok NotThere) h = (first (strike_refusals g e) ≡ None) × (holds g.has e ≡ false) × (h ≡ g)
Strikes g e (Err f) h = (first (strike_refusals g e) ≡ Some (number f)) × (h ≡ g)

abbrev pub BadSizes : ℕ → ℕ → ℕ → SizeFault → Type 0
BadSizes m n q Nodes = (1 ≤ n) × (n ≤ m) → ⊥
BadSizes m n q Labels = (1 ≤ n) × (n ≤ m) × ((1 ≤ q) × (q ≤ 26) → ⊥)

abbrev pub Checks : ℕ → ℕ → Edge → Result (Unit {0}) Fault → Type 0
Checks n q e (Ok _) = (first (edge_refusals n q e) ≡ None) × Legal n q e.from e.label e.to
Checks n q e (Err f) = first (edge_refusals n q e) ≡ Some (number f)
