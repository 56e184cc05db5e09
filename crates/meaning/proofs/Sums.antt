-- Sums of a function below a number.
use Rattle.std.proofs.Common.{◌≡◌, ℕ, zero, suc, ◌+◌, ◌*◌, ◌<◌, ◌≤◌, sym, refl, subst, ⊎_elim, suc-mul, arith}
use Rattle.std.proofs.lemmas.Bool.{cases_eq}
use Rattle.meaning.specs.Graphs.{sum_below}

pub sum_cong : (n : ℕ) (f g : ℕ → ℕ) → ((i : ℕ) → i < n → g i ≡ f i) → sum_below n g ≡ sum_below n f
sum_cong zero f g h = refl
sum_cong (suc n) f g h =
    let here : g n ≡ f n = h n (omega arith) in
    let below : sum_below n g ≡ sum_below n f = sum_cong n f g (λ i l. h i (omega arith)) in
    omega arith

pub sum_none : (n : ℕ) (f : ℕ → ℕ) → ((i : ℕ) → f i ≡ 0) → sum_below n f ≡ 0
sum_none zero f h = refl
sum_none (suc n) f h = let here = h n in let below = sum_none n f h in omega arith

-- one term is greater by one
pub sum_more : (n k : ℕ) (f g : ℕ → ℕ) → k < n → ((i : ℕ) → (i ≡ k → ⊥) → g i ≡ f i) → g k ≡ f k + 1 → sum_below n g ≡ sum_below n f + 1
sum_more zero k f g l h e = absurd (omega arith)
sum_more (suc n) k f g l h e =
    ⊎_elim
    (λ (p : n ≡ k).
    let here : g n ≡ f n + 1 = subst (λ (j : ℕ). g j ≡ f j + 1) (sym p) e in
    let below : sum_below n g ≡ sum_below n f = sum_cong n f g (λ i m. h i (omega arith)) in
    omega arith)
    (λ (p : n ≡ k → ⊥).
    let here : g n ≡ f n = h n p in
    let below : sum_below n g ≡ sum_below n f + 1 = sum_more n k f g (omega arith) h e in
    omega arith)
    (cases_eq n k)

pub sum_le : (n b : ℕ) (f : ℕ → ℕ) → ((i : ℕ) → f i ≤ b) → sum_below n f ≤ n * b
sum_le zero b f h = omega arith
sum_le (suc n) b f h =
    let here = h n in
    let below : sum_below n f ≤ n * b = sum_le n b f h in
    let p : suc n * b ≡ n * b + b = suc-mul n b in
    omega arith
