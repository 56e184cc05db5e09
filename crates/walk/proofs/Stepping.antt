-- The labels of a step, one after another.
use Rattle.std.proofs.Common.{◌≡◌, ℕ, ◌+◌, ◌<◌, true, ◌↔◌, List, subst, inl, inr, ⊎_elim, arith}
use lib.Bits.{bit_and}
use Rattle.std.proofs.lemmas.Bool.{cases_eq}
use Rattle.bits.specs.Bits.{Has}
use Rattle.bits.proofs.Sets.{has_and}
use Rattle.meaning.specs.Graphs.{Edges}
use Rattle.automata.specs.declared.machine.Automaton.{Automaton}
use Rattle.walk.specs.Moves.{Enters, Moves, Successors}
use Rattle.walk.specs.Marked.{Grown}
use Rattle.walk.proofs.Marking.{grown_none, grown_then, grown_as}

-- an edge from v under a label below i leads to w, and t is in `after` and is entered by that label
abbrev pub Under : Edges → ℕ → Automaton → ℕ → ℕ → ℕ → ℕ → ℕ → Type 0
Under E q m v after i w t = (a : ℕ) × (a < i) × (E v a w ≡ true) × Has after t × Enters q m t a

module _ (E : Edges) (q : ℕ) (m : Automaton) (v after : ℕ) where
  pub under_none : (S P : List ℕ) → Grown S P S P (Under E q m v after 0)
  under_none S P = grown_none S P _ (λ w s h. omega (arith, h.1))

  pub under_more : {S P T Q U R : List ℕ} (i mask : ℕ) → Grown S P T Q (Under E q m v after i)
      → Grown T Q U R (λ w s. (E v i w ≡ true) × Has (bit_and after mask) s)
      → ((t : ℕ) → Has mask t ↔ Enters q m t i) → Grown S P U R (Under E q m v after (i + 1))
  under_more i mask g k enters =
      grown_then (Under E q m v after (i + 1)) g k
      (λ w t h. ⊎_elim (λ e. inr (subst (λ (a : ℕ). E v a w ≡ true) e h.2, (has_and after mask t).1 (h.3, (enters t).1 (subst (λ (a : ℕ). Enters q m t a) e h.4))))
      (λ n. inl (h.0, omega (arith, h.1), h.2, h.3, h.4)) (cases_eq h.0 i))
      (λ w t h. (h.0, omega (arith, h.1), h.2, h.3, h.4))
      (λ w t h. let both = (has_and after mask t).0 h.1 in (i, omega arith, h.0, both.0, (enters t).0 both.1))

  pub under_all : {S P T Q : List ℕ} (p i : ℕ) → ((a w : ℕ) → E v a w ≡ true → a < i) → Successors m p after
      → Grown S P T Q (Under E q m v after i) → Grown S P T Q (λ w t. (s : ℕ) × Has p s × Moves E q m v s w t)
  under_all p i below next g =
      grown_as _ g
      (λ w t h. let e = h.2 in let step = e.2 in (e.0, below e.0 w e.1, e.1, next.all h.0 t h.1 step.1, (step.0, step.2)))
      (λ w t h. let r = next.some t h.3 in (r.0, r.1, (h.0, h.2, (h.4.0, r.2, h.4.1))))
