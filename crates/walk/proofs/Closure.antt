-- A closed set of what is reached is all that is reached.
use Rattle.std.proofs.Common.{◌≡◌, ℕ, ◌+◌, ◌*◌, ◌^◌, ◌<◌, ◌≤◌, true, ◌↔◌, List, [], ◌∷◌, ◌++◌, length, get_or, take, drop, set, replicate, sum, sym, refl, subst, inl, inr, ⊎_elim, arith}
use Rattle.std.proofs.ByRecursion.{sum_by_le, All-from_get_or}
use Rattle.std.proofs.lemmas.Bool.{cases_eq}
use Rattle.bits.specs.Bits.{Has}
use Rattle.bits.proofs.Laws.{bit-pow}
use Rattle.bits.proofs.Sets.{has_zero, has_only}
use Rattle.meaning.specs.Graphs.{Edges}
use Rattle.meaning.specs.Paths.{Path}
use Rattle.automata.specs.declared.machine.Automaton.{Automaton}
use Rattle.automata.specs.Machines.{Steps, Goes}
use Rattle.walk.specs.Moves.{In, Moves, Leads, Reaches}
use Rattle.walk.specs.Marked.{Grown, Grew, Small}
use Rattle.walk.specs.Walked.{Walked, Seeded}
use Rattle.walk.proofs.Halves.{halves_zero}
use Rattle.walk.proofs.Marking.{in_set, set_in}

-- nothing is in a list of zeros
pub bare : (X : List ℕ) → ((v : ℕ) → get_or X v 0 ≡ 0) → (v s : ℕ) → In X v s → ⊥
bare X z v s i = has_zero s (subst (λ (y : ℕ). Has y s) (z v) i)

module _ (E : Edges) (q : ℕ) (m : Automaton) where
  path_push : (u : ℕ) (x : List ℕ) (v a w : ℕ) → Path E u x v → E v a w ≡ true → Path E u (x ++ a ∷ []) w
  path_push u [] v a w p h = (w, rw p h, refl)
  path_push u (b ∷ x) v a w p h = (p.0, p.1, path_push p.0 x v a w p.2 h)

  leads_push : (r : ℕ) (x : List ℕ) (s a t : ℕ) → Leads q m r x s → Steps q m s a t → Leads q m r (x ++ a ∷ []) t
  leads_push r [] s a t p h = (t, rw p h, refl)
  leads_push r (b ∷ x) s a t p h = (p.0, p.1, leads_push p.0 x s a t p.2 h)

  reaches_push : (B : List ℕ) (v s w t : ℕ) → Reaches E q m B v s → Moves E q m v s w t → Reaches E q m B w t
  reaches_push B v s w t r e =
      (r.0, r.1, r.2 ++ e.0 ∷ [], r.3, path_push r.0 r.2 v e.0 w r.4 e.1, leads_push r.1 r.2 s e.0 t r.5 e.2)

  -- a set that is closed under moves has all that is reached from it
  all_reached : (S : List ℕ) → ((v s : ℕ) → In S v s → (w t : ℕ) → Moves E q m v s w t → In S w t)
      → (x : List ℕ) (u r v s : ℕ) → In S u r → Path E u x v → Leads q m r x s → In S v s
  all_reached S closed [] u r v s i p l = subst (λ (k : ℕ). In S v k) l (subst (λ (k : ℕ). In S k r) p i)
  all_reached S closed (a ∷ x) u r v s i p l =
      all_reached S closed x p.0 l.0 v s (closed u r i p.0 l.0 (a, p.1, l.1)) p.2 l.2

  -- a walk begins where the same states are seen and wait
  pub walked_none : (n : ℕ) (Z : List ℕ) → Seeded n Z → Small (take n Z) → Walked E q m (take n Z) (take n Z) (drop n Z)
  walked_none n Z seeds few =
      record {
        start = λ v s i. i;
        sound = λ v s i. (v, s, [], i, refl, refl);
        inner = λ v s i. (seeds v s).1 i;
        closed = λ v s i. inl ((seeds v s).0 i);
        few = few;
      }

  -- one turn: what waited at v is taken, and what it leads to is marked
  pub walked_more : (B S P S' P' : List ℕ) (v : ℕ) → v < length P → Walked E q m B S P
      → Grown S (set P v 0) S' P' (λ w t. (s : ℕ) × Has (get_or P v 0) s × Moves E q m v s w t) → Walked E q m B S' P'
  walked_more B S P S' P' v l k g =
      record {
        start = λ w s i. g.stays w s (k.start w s i);
        sound = λ w t i. ⊎_elim (k.sound w t) (λ e. reaches_push B v e.0 w t (k.sound v e.0 (k.inner v e.0 e.1)) e.2) (g.only w t i);
        inner = λ w t i. ⊎_elim (λ j. ⊎_elim (λ o. absurd (has_zero t o.1)) (λ o. g.stays w t (k.inner w t o.1)) (set_in P v 0 l w t j)) (λ j. j) (g.within w t i);
        closed = λ x s i. ⊎_elim (λ j. ⊎_elim (λ p. ⊎_elim (λ e. inr (λ w t d. g.adds w t (s, subst (λ (y : ℕ). In P y s) e p, subst (λ (y : ℕ). Moves E q m y s w t) e d)))
            (λ n. inl (g.waits x s (in_set P v 0 l x s (λ e. absurd (n e)) (λ o. p)))) (cases_eq x v))
            (λ f. inr (λ w t e. g.stays w t (f w t e))) (k.closed x s j)) inl (g.fresh x s i);
        few = g.small k.few;
      }

  pub walked_all : (B S P : List ℕ) → ((v : ℕ) → get_or P v 0 ≡ 0) → Walked E q m B S P → (v s : ℕ) → Reaches E q m B v s → In S v s
  walked_all B S P z k v s r =
      all_reached S (λ x t i. ⊎_elim (λ p. absurd (bare P z x t p)) (λ f. f) (k.closed x t i))
      r.2 r.0 r.1 v s (k.start r.0 r.1 r.3) r.4 r.5

  -- the automaton accepts a word if that leads to a state that accepts
  pub goes_from_leads : (p : ℕ) (x : List ℕ) (t : ℕ) → Leads q m p x t → Has m.accept t → Goes q m p x
  goes_from_leads p [] t l h = subst (λ (y : ℕ). Has m.accept y) (sym l) h
  goes_from_leads p (a ∷ x) t l h = (l.0, l.1, goes_from_leads l.0 x t l.2 h)

  pub leads_from_goes : (p : ℕ) (x : List ℕ) → Goes q m p x → (t : ℕ) × Leads q m p x t × Has m.accept t
  leads_from_goes p [] g = (p, refl, g)
  leads_from_goes p (a ∷ x) g = let r = leads_from_goes g.0 x g.2 in (r.0, (g.0, g.1, r.1), r.2)

-- where one node is marked in state 0 and nothing else, that is the one seed
pub seeded_one : (u n k N : ℕ) (Z Z' : List ℕ) → k ≡ n → N ≡ n + n → Z ≡ replicate N 0 → Grew k Z Z' (λ w s. (w ≡ u) × Has 1 s)
    → Seeded n Z' × ((v s : ℕ) → In (take n Z') v s ↔ ((v ≡ u) × (s ≡ 0)))
seeded_one u n k N Z Z' e l zero g' = (
  (λ v s. ((λ i. ⊎_elim (λ j. absurd (bare (take n Z) zeros.0 v s j)) (λ j. j) (g.fresh v s i)), λ i. ⊎_elim (λ j. absurd (bare (drop n Z) zeros.1 v s j)) (λ j. j) (g.within v s i))),
  λ v s. (
    (λ i. ⊎_elim (λ j. absurd (bare (take n Z) zeros.0 v s j)) (λ j. (j.0, (has_only 1 0 s (bit-pow 0 s)).0 j.1)) (g.only v s i)),
    λ i. g.adds v s (i.0, (has_only 1 0 s (bit-pow 0 s)).1 i.1),
  ),
)
  where
    zeros : ((v : ℕ) → get_or (take n Z) v 0 ≡ 0) × ((v : ℕ) → get_or (drop n Z) v 0 ≡ 0)
    zeros = halves_zero n N Z l zero

    g : Grew n Z Z' (λ w s. (w ≡ u) × Has 1 s)
    g = subst (λ (y : ℕ). Grew y Z Z' (λ w s. (w ≡ u) × Has 1 s)) e g'

-- a sum of words of 64 bits
pub sum_small : (S : List ℕ) → Small S → sum S ≤ length S * 2 ^ 64
sum_small S l = sum_by_le (λ x. x) (2 ^ 64) S (All-from_get_or (λ x. x ≤ 2 ^ 64) S 0 (λ i h. omega (arith, l i)))
