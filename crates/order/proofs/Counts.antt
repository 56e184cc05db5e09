-- How many numbers below m pass a test.
use Rattle.std.proofs.Common.{◌≡◌, ℕ, zero, suc, ◌+◌, ◌<◌, ◌≤◌, Bool, true, false, refl, ap, ◌∙◌, inl, inr, arith}
use Rattle.std.proofs.lemmas.Bool.{cases_eq}

-- 1 for a test that passes
abbrev tally : Bool → ℕ
tally true = 1
tally false = 0

tally_true : (b : Bool) → b ≡ true → tally b ≡ 1
tally_true b e = ap tally e

tally_false : (b : Bool) → b ≡ false → tally b ≡ 0
tally_false b e = ap tally e

pub count : ℕ → (ℕ → Bool) → ℕ
count zero p = 0
count (suc m) p = count m p + tally (p m)

cond_le : (b : Bool) → tally b ≤ 1
cond_le true = omega arith
cond_le false = omega arith

pub count_none : (m : ℕ) (p : ℕ → Bool) → ((c : ℕ) → c < m → p c ≡ false) → count m p ≡ 0
unfolding count
count_none zero p h = refl
count_none (suc m) p h = let e = count_none m p (λ c l. h c (omega arith)) in let f : tally (p m) ≡ 0 = tally_false (p m) (h m (omega arith)) in omega arith

pub count_all : (m : ℕ) (p : ℕ → Bool) → ((c : ℕ) → c < m → p c ≡ true) → count m p ≡ m
unfolding count
count_all zero p h = refl
count_all (suc m) p h = let e = count_all m p (λ c l. h c (omega arith)) in let f : tally (p m) ≡ 1 = tally_true (p m) (h m (omega arith)) in omega arith

pub count_most : (m : ℕ) (p : ℕ → Bool) → count m p ≤ m
unfolding count
count_most zero p = omega arith
count_most (suc m) p = omega (arith, count_most m p, cond_le (p m))

-- one that fails leaves room
pub count_room : (m : ℕ) (p : ℕ → Bool) (c : ℕ) → c < m → p c ≡ false → count m p < m
unfolding count
count_room zero p c l h = absurd (omega arith)
count_room (suc m) p c l h = elim (cases_eq m c) [
  | inl e ↦ (let f : tally (p m) ≡ 0 = tally_false (p m) (ap p e ∙ h) in omega (arith, count_most m p))
  | inr n ↦ (omega (arith, count_room m p c (omega arith) h, cond_le (p m)))
]

count_same : (m : ℕ) (p r : ℕ → Bool) → ((c : ℕ) → c < m → r c ≡ p c) → count m r ≡ count m p
unfolding count
count_same zero p r h = refl
count_same (suc m) p r h = let e = count_same m p r (λ c l. h c (omega arith)) in let f : tally (r m) ≡ tally (p m) = ap tally (h m (omega arith)) in omega arith

-- one more passes
pub count_more : (m : ℕ) (p r : ℕ → Bool) (c : ℕ) → c < m → p c ≡ false → r c ≡ true → ((d : ℕ) → (d ≡ c → ⊥) → r d ≡ p d) → count m r ≡ count m p + 1
unfolding count
count_more zero p r c l h g s = absurd (omega arith)
count_more (suc m) p r c l h g s = elim (cases_eq m c) [
  | inl e ↦ (let f : tally (p m) ≡ 0 = tally_false (p m) (ap p e ∙ h) in
      let k : tally (r m) ≡ 1 = tally_true (r m) (ap r e ∙ g) in
      let u = count_same m p r (λ d dl. s d (λ z. omega arith)) in omega arith)
  | inr n ↦ (let u = count_more m p r c (omega arith) h g s in
      let f : tally (r m) ≡ tally (p m) = ap tally (s m n) in omega arith)
]
