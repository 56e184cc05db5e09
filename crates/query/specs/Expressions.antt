-- Whole texts as path expressions.
--     Begins xs k        the first k bytes of xs begin the text of some expression
--     Longest xs k       k is the length of the longest beginning of xs that does
--     Expresses xs r     r is an automaton for exactly the words of the expression xs, which has one tree;
--                        or xs is no expression, and r is the length of its longest beginning that begins one
use Rattle.std.specs.Prelude.{◌≡◌, ℕ, ◌<◌, ◌≤◌, List, ◌++◌, length, take, Ok, Err, Result, ◌≢◌}
use Rattle.automata.specs.declared.machine.Automaton.{Automaton}
use Rattle.automata.specs.Machines.{Recognizes}
use Rattle.query.specs.Grammar.{Tree, alternative, text}
use Rattle.query.specs.Trees.{regex}

abbrev pub Begins : List ℕ → ℕ → Type 0
Begins xs k = (t : Tree alternative) × (more : List ℕ) × (text t ≡ take k xs ++ more)

pub record Longest (xs : List ℕ) (k : ℕ) : Type 0 where
  pub within : k ≤ length xs
  pub begins : Begins xs k
  pub none : (j : ℕ) → k < j → j ≤ length xs → Begins xs j → ⊥

pub record Expression (xs : List ℕ) (a : Automaton) : Type 0 where
  pub tree : Tree alternative
  pub is : text tree ≡ xs
  pub words : Recognizes a (regex tree)
  pub only : (t : Tree alternative) → text t ≡ xs → t ≡ tree

pub record NoExpression (xs : List ℕ) (k : ℕ) : Type 0 where
  pub none : (t : Tree alternative) → text t ≢ xs
  pub longest : Longest xs k

abbrev pub Expresses : List ℕ → Result Automaton ℕ → Type 0
Expresses xs (Ok a) = Expression xs a
Expresses xs (Err k) = NoExpression xs k
