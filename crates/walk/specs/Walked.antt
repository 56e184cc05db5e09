-- What a walk keeps true of the states seen, S, and the states waiting, P, where it began with the pairs that B keeps.
--     Walked E q m B S P        what is seen is reached; what is seen and does not wait has been followed
--     GoesOn E q m n Z Z'      each walk that the scratch words Z are a state of goes on to Z'
--     Falls n Z Z' d            what is left to do falls from Z to Z' by at least d
--     Seeded n Z                the same states are seen and wait at each node
use Rattle.std.specs.Prelude.{ℕ, ◌+◌, ◌≤◌, ◌⊎◌, ◌↔◌, List, take, drop, sum}
use Rattle.meaning.specs.Graphs.{Edges}
use Rattle.automata.specs.declared.machine.Automaton.{Automaton}
use Rattle.walk.specs.Moves.{In, Moves, Reaches}
use Rattle.walk.specs.Marked.{Small}

pub record Walked (E : Edges) (q : ℕ) (m : Automaton) (B S P : List ℕ) : Type 0 where
  pub start : (v s : ℕ) → In B v s → In S v s
  pub sound : (v s : ℕ) → In S v s → Reaches E q m B v s
  pub inner : (v s : ℕ) → In P v s → In S v s
  pub closed : (v s : ℕ) → In S v s → In P v s ⊎ ((w t : ℕ) → Moves E q m v s w t → In S w t)
  pub few : Small S

abbrev pub GoesOn : Edges → ℕ → Automaton → ℕ → List ℕ → List ℕ → Type 0
GoesOn E q m n Z Z' = (B : List ℕ) → Walked E q m B (take n Z) (drop n Z) → Walked E q m B (take n Z') (drop n Z')

abbrev pub Falls : ℕ → List ℕ → List ℕ → ℕ → Type 0
Falls n Z Z' d = sum (take n Z) + sum (drop n Z') + d ≤ sum (take n Z') + sum (drop n Z)

abbrev pub Seeded : ℕ → List ℕ → Type 0
Seeded n Z = (v s : ℕ) → In (take n Z) v s ↔ In (drop n Z) v s
