-- The product of a graph and an automaton: pairs of a node and a state.
--     In S v s               state s is in the set of states that S keeps for node v
--     Enters q m t a         the automaton m enters its state t by the label a of q
--     Entering q m masks     masks has, for each label of q, the set of the states that are entered by it
--     Successors m p r       r is the set of the states that follow some state of p
--     Moves E q m v s w t    an edge from v to w and a step from s to t, under one label
--     Leads q m s x t        the word x leads from state s to state t
--     Reaches E q m S v s    some word leads along a path from a node to v, and from a state that S keeps for that node to s
--     Spells E q m u v       some path from u to v spells a word that m accepts
use Rattle.std.specs.Prelude.{◌≡◌, ℕ, ◌<◌, true, ◌↔◌, List, [], ◌∷◌, slice_index, slice_index_or}
use Rattle.std.proofs.Props.{props}
use Rattle.bits.specs.Bits.{Has}
use Rattle.meaning.specs.Graphs.{Edges}
use Rattle.meaning.specs.Paths.{Path}
use Rattle.meaning.specs.Words.{Symbol, label, any, Matches}
use Rattle.automata.specs.declared.machine.Automaton.{Automaton}
use Rattle.automata.specs.declared.symbols.Symbol.TheVariants.{Any}
use Rattle.automata.specs.Machines.{Steps, Accepts}
use Rattle.automata.specs.Parts.{meant}

abbrev pub In : List ℕ → ℕ → ℕ → Type 0
In S v s = Has (slice_index S v) s

abbrev pub Enters : ℕ → Automaton → ℕ → ℕ → Type 0
Enters q m t a = (t < 64) × Matches q (meant (slice_index_or m.symbols t Any)) a

abbrev pub Entering : ℕ → Automaton → List ℕ → Type 0
Entering q m masks = (a t : ℕ) → a < q → Has (slice_index masks a) t ↔ Enters q m t a

pub record Successors (m : Automaton) (p r : ℕ) : Type 0 where
  pub some : (t : ℕ) → Has r t → (s : ℕ) × Has p s × Has (slice_index m.follow s) t
  pub all : (s t : ℕ) → Has p s → Has (slice_index m.follow s) t → Has r t

abbrev pub Moves : Edges → ℕ → Automaton → ℕ → ℕ → ℕ → ℕ → Type 0
Moves E q m v s w t = (a : ℕ) × (E v a w ≡ true) × Steps q m s a t

abbrev pub Leads : ℕ → Automaton → ℕ → List ℕ → ℕ → Type 0
Leads q m s [] t = s ≡ t
Leads q m s (a ∷ x) t = (r : ℕ) × Steps q m s a r × Leads q m r x t

abbrev pub Reaches : Edges → ℕ → Automaton → List ℕ → ℕ → ℕ → Type 0
Reaches E q m S v s = (u : ℕ) × (p : ℕ) × (x : List ℕ) × In S u p × Path E u x v × Leads q m p x s

abbrev pub Spells : Edges → ℕ → Automaton → ℕ → ℕ → Type 0
Spells E q m u v = (x : List ℕ) × Path E u x v × Accepts q m x

-- a fact with at most one proof, as a struct that keeps it needs
pub matches_prop : (q : ℕ) (s : Symbol) (a : ℕ) → IsProp (Matches q s a)
matches_prop q (label c) a = hlevel props
matches_prop q any a = hlevel props
