-- Different values below k stand at k places at most.
use Rattle.std.proofs.Common.{◌≡◌, ℕ, zero, suc, pred, ◌<◌, ◌≤◌, cond, ltb, ◌⊎◌, sym, ap, ◌∙◌, inl, inr, ⊎_elim, arith}
use Rattle.std.proofs.lemmas.Bool.{cases_eq, cases_lt, cond-true, cond-false, lt-ltb, le-ltb}

-- the numbers without i, in order
skip : ℕ → ℕ → ℕ
skip i j = cond (ltb j i) j (suc j)

skip_cases : (i j : ℕ) → ((j < i) × (skip i j ≡ j)) ⊎ ((i ≤ j) × (skip i j ≡ suc j))
unfolding skip
skip_cases i j = ⊎_elim (λ (l : j < i). inl (l, cond-true (ltb j i) j (suc j) (lt-ltb j i l))) (λ (l : i ≤ j). inr (l, cond-false (ltb j i) j (suc j) (le-ltb j i l))) (cases_lt j i)

-- a place below n where f is k
place : (f : ℕ → ℕ) (k n : ℕ) → ((i : ℕ) → i < n → f i ≡ k → ⊥) ⊎ ((i : ℕ) × (i < n) × (f i ≡ k))
place f k zero = inl (λ i l e. omega arith)
place f k (suc n) = elim (cases_eq (f n) k) [
  | inl e ↦ inr (n, omega arith, e)
  | inr d ↦ elim (place f k n) [
    | inl none ↦ inl (λ i l e. ⊎_elim (λ (z : i ≡ n). d (ap f (sym z) ∙ e)) (λ (z : i ≡ n → ⊥). none i (omega arith) e) (cases_eq i n))
    | inr p ↦ inr (p.0, omega (arith, p.1), p.2)
  ]
]

pub pigeonhole : (k n : ℕ) (f : ℕ → ℕ) → ((i : ℕ) → i < n → f i < k) → ((i j : ℕ) → i < j → j < n → f i ≡ f j → ⊥) → n ≤ k
pigeonhole zero n f low apart = ⊎_elim (λ (l : 0 < n). absurd (omega (arith, low 0 l))) (λ (l : n ≤ 0). l) (cases_lt 0 n)
pigeonhole (suc k) n f low apart = elim (place f k n) [
  | inl none ↦ (let l = pigeonhole k n f (λ i l. let a = low i l in let b : f i ≡ k → ⊥ = none i l in omega arith) apart in omega arith)
  | inr p ↦ (let i = p.0 in
      let inn : i < n = p.1 in
      let l = pigeonhole k (pred n) (λ j. f (skip i j))
      (λ j jl. elim (skip_cases i j) [
        | inl s ↦ (let a = low j (omega arith) in let b : f j ≡ k → ⊥ = λ e. apart j i s.0 inn (e ∙ sym p.2) in let c : f (skip i j) ≡ f j = ap f s.1 in omega arith)
        | inr s ↦ (let sl = s.0 in let a = low (suc j) (omega arith) in let b : f (suc j) ≡ k → ⊥ = λ e. apart i (suc j) (omega arith) (omega arith) (p.2 ∙ sym e) in let c : f (skip i j) ≡ f (suc j) = ap f s.1 in omega arith)
      ])
      (λ a b ab bl e. elim (skip_cases i a) [
        | inl s ↦ (let sa = s.0 in elim (skip_cases i b) [
          | inl t ↦ apart a b ab (omega arith) (sym (ap f s.1) ∙ e ∙ ap f t.1)
          | inr t ↦ apart a (suc b) (omega arith) (omega arith) (sym (ap f s.1) ∙ e ∙ ap f t.1)
        ])
        | inr s ↦ (let sa = s.0 in elim (skip_cases i b) [
          | inl t ↦ (let tb = t.0 in absurd (omega arith))
          | inr t ↦ apart (suc a) (suc b) (omega arith) (omega arith) (sym (ap f s.1) ∙ e ∙ ap f t.1)
        ])
      ]) in omega arith)
]
