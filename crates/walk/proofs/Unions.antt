-- The sets that `entered_by` and `successors` make.
use Rattle.std.proofs.Common.{◌≡◌, ℕ, ◌+◌, ◌%◌, ◌<◌, Bool, true, false, cond, eqb, ◌⊎◌, ◌↔◌, get_or, Some, sym, ap, ◌∙◌, subst, inl, inr, ⊎_elim, mod-eq_of_lt, arith}
use lib.Bits.{bit_or}
use Rattle.std.proofs.lemmas.Bool.{cases_eq, both_ways, eq-eqb, ne_eqb}
use Rattle.bits.specs.Bits.{bit, Has, LowestBit}
use Rattle.bits.proofs.Sets.{has_or, has_zero}
use Rattle.automata.specs.declared.machine.Automaton.{Automaton}

-- r is the set of the numbers below i that P holds of
abbrev pub Those : (ℕ → Type 0) → ℕ → ℕ → Type 0
Those P i r = (t : ℕ) → Has r t ↔ ((t < i) × P t)

pub those_none : (P : ℕ → Type 0) → Those P 0 0
those_none P t = ((λ h. absurd (has_zero t h)), λ h. absurd (omega (arith, h.0)))

-- i is added
pub those_more : (P : ℕ → Type 0) (i r r' : ℕ) → i < 64 → Those P i r → ((t : ℕ) → bit r' t ≡ cond (eqb (i % 64) t) true (bit r t)) → P i → Those P (i + 1) r'
those_more P i r r' l those marks p t = ⊎_elim
    (λ (e : i ≡ t). ((λ h. (omega arith, subst P e p)), λ h. marks t ∙ ap (λ (b : Bool). cond b true (bit r t)) (eq-eqb (i % 64) t (mod-eq_of_lt l ∙ e))))
    (λ (n : i ≡ t → ⊥).
    let same : bit r' t ≡ bit r t = marks t ∙ ap (λ (b : Bool). cond b true (bit r t)) (ne_eqb (i % 64) t (λ e. n (sym (mod-eq_of_lt l) ∙ e))) in
    ((λ h. let k = (those t).0 (sym same ∙ h) in (omega (arith, k.0), k.1)), λ h. same ∙ (those t).1 (omega (arith, h.0), h.1)))
    (cases_eq i t)

pub those_skip : (P : ℕ → Type 0) (i r : ℕ) → Those P i r → (P i → ⊥) → Those P (i + 1) r
those_skip P i r those n t = (
  (λ h. let k = (those t).0 h in (omega (arith, k.0), k.1)),
  λ h. ⊎_elim (λ (e : t ≡ i). absurd (n (subst P e h.1))) (λ (o : t ≡ i → ⊥). (those t).1 (omega (arith, h.0), h.1)) (cases_eq t i),
)

-- some states of p are left in `rest`, and r has what follows the others
pub record Following (m : Automaton) (p rest r : ℕ) : Type 0 where
  pub left : (s : ℕ) → Has rest s → Has p s
  pub some : (t : ℕ) → Has r t → (s : ℕ) × Has p s × Has (get_or m.follow s 0) t
  pub all : (s t : ℕ) → Has p s → Has (get_or m.follow s 0) t → Has rest s ⊎ Has r t

pub following_none : (m : Automaton) (p : ℕ) → Following m p p 0
following_none m p = record { left = λ s h. h; some = λ t h. absurd (has_zero t h); all = λ s t h k. inl h }

pub following_more : (m : Automaton) (p rest rest' r i : ℕ) → LowestBit rest 0 (Some i) → ((j : ℕ) → bit rest' j ≡ cond (eqb i j) false (bit rest j))
    → Following m p rest r → Following m p rest' (bit_or r (get_or m.follow i 0))
following_more m p rest rest' r i low drops f = record {
  left = λ s h. f.left s (fewer s h);
  some = λ t h. ⊎_elim (f.some t) (λ k. (i, f.left i low.1, k)) ((has_or r (get_or m.follow i 0) t).0 h);
  all = λ s t h k. ⊎_elim
      (λ (e : i ≡ s). inr ((has_or r (get_or m.follow i 0) t).1 (inr (subst (λ (y : ℕ). Has (get_or m.follow y 0) t) (sym e) k))))
      (λ (n : i ≡ s → ⊥). ⊎_elim (λ o. inl (other s n ∙ o)) (λ o. inr ((has_or r (get_or m.follow i 0) t).1 (inl o))) (f.all s t h k))
      (cases_eq i s);
}
  where
    other : (s : ℕ) → (i ≡ s → ⊥) → bit rest' s ≡ bit rest s
    other s n = drops s ∙ ap (λ (b : Bool). cond b false (bit rest s)) (ne_eqb i s n)

    fewer : (s : ℕ) → Has rest' s → Has rest s
    fewer s h = ⊎_elim
        (λ (e : i ≡ s). absurd (both_ways (bit rest' s) (drops s ∙ ap (λ (b : Bool). cond b false (bit rest s)) (eq-eqb i s e)) h))
        (λ (n : i ≡ s → ⊥). sym (other s n) ∙ h) (cases_eq i s)
