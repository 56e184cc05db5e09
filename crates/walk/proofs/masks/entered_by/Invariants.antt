use Rattle.std.proofs.Common.{ℕ, ◌<◌, get_or}
use Rattle.meaning.specs.Words.{Matches}
use Rattle.automata.specs.declared.symbols.Symbol.TheVariants.{Any}
use Rattle.automata.specs.Parts.{meant}
use Rattle.walk.proofs.Unions.{Those}
use Rattle.walk.proofs.masks.entered_by.Given as goal

abbrev pub invariant-loop-t : goal.invariant-loop-t
invariant-loop-t l = (q : ℕ) → l.label < q → Those (λ t. Matches q (meant (get_or l.automaton.symbols t Any)) l.label) l.t l.states
