-- Position automata as the engine has them: state 0 is the start, state p the position p, and none reads its symbol but on entry.
--     Steps n m p a q    from state p the automaton m goes under the label a of n to state q
--     Goes n m p w       from state p the word w leads to a state that accepts
--     Accepts n m w      the word w leads from the start to a state that accepts
--     Recognizes m r     m accepts exactly the words of r, for every number of labels; it has as many positions as r
use Rattle.std.specs.Prelude.{◌≡◌, ℕ, ◌<◌, ◌≤◌, ◌↔◌, List, [], ◌∷◌, slice_index, slice_index_or}
use Rattle.bits.specs.Bits.{Has}
use Rattle.meaning.specs.Words.{Regex, Lang, Matches}
use Rattle.automata.specs.declared.machine.Automaton.{Automaton}
use Rattle.automata.specs.declared.symbols.Symbol.TheVariants.{Any}
use Rattle.automata.specs.Parts.{meant}
use Rattle.automata.specs.Positions.{size}

abbrev pub Steps : ℕ → Automaton → ℕ → ℕ → ℕ → Type 0
Steps n m p a q = (q < 64) × Has (slice_index m.follow p) q × Matches n (meant (slice_index_or m.symbols q Any)) a

abbrev pub Goes : ℕ → Automaton → ℕ → List ℕ → Type 0
Goes n m p [] = Has m.accept p
Goes n m p (a ∷ w) = (q : ℕ) × Steps n m p a q × Goes n m q w

abbrev pub Accepts : ℕ → Automaton → List ℕ → Type 0
Accepts n m w = Goes n m 0 w

pub record Recognizes (m : Automaton) (r : Regex) : Type 0 where
  pub positions : m.size ≡ size r
  pub words : size r ≤ 63 → (n : ℕ) (w : List ℕ) → Accepts n m w ↔ Lang n r w
