-- The number of edges of a set, after one more and after one less.
use Rattle.std.proofs.Common.{◌≡◌, ℕ, ◌+◌, ◌*◌, ◌≤◌, Bool, true, false, cond, sym, ap, ◌∙◌, subst, mul_assoc, mul_comm, mul-one, arith}
use Rattle.meaning.specs.Graphs.{Edges, Legal, count, sum_below}
use Rattle.meaning.proofs.Sums.{sum_cong, sum_none, sum_more, sum_le}

pub count_none : (n q : ℕ) (E : Edges) → ((u a v : ℕ) → E u a v ≡ false) → count n q E ≡ 0
unfolding count
count_none n q E h =
    sum_none n _ (λ u. sum_none q _ (λ a. sum_none n _ (λ v. ap (λ (b : Bool). cond b 1 0) (h u a v))))

-- E' has (f, l, t), which E lacks, and is the same otherwise
pub count_more : (n q f l t : ℕ) (E E' : Edges) → Legal n q f l t → E f l t ≡ false → E' f l t ≡ true
    → ((u a v : ℕ) → ((u ≡ f) × (a ≡ l) × (v ≡ t) → ⊥) → E' u a v ≡ E u a v) → count n q E' ≡ count n q E + 1
unfolding count
count_more n q f l t E E' fit lacks gains rest =
    let at : (u a v : ℕ) → ((u ≡ f) × (a ≡ l) × (v ≡ t) → ⊥) → ◌≡◌ {A = ℕ} (cond (E' u a v) 1 0) (cond (E u a v) 1 0)
    = λ u a v ne. ap (λ (b : Bool). cond b 1 0) (rest u a v ne) in
    let on : ◌≡◌ {A = ℕ} (cond (E' f l t) 1 0) (cond (E f l t) 1 0 + 1)
    = ap (λ (b : Bool). cond b 1 0) gains ∙ ap (λ (b : Bool). cond b 1 0 + 1) (sym lacks) in
    sum_more n f _ _ fit.0
    (λ u ne. sum_cong q _ _ (λ a _. sum_cong n _ _ (λ v _. at u a v (λ p. ne p.0))))
    (sum_more q l _ _ fit.1
    (λ a ne. sum_cong n _ _ (λ v _. at f a v (λ p. ne p.1)))
    (sum_more n t _ _ fit.2 (λ v ne. at f l v (λ p. ne p.2)) on))

one_le : (b : Bool) → cond b 1 0 ≤ 1
one_le true = omega arith
one_le false = omega arith

-- no more edges than triples
pub count_bound : (n q : ℕ) (E : Edges) → count n q E ≤ n * n * q
unfolding count
count_bound n q E =
    let inner : (u : ℕ) → sum_below q (λ a. sum_below n (λ v. cond (E u a v) 1 0)) ≤ q * (n * 1)
    = λ u. sum_le q (n * 1) _ (λ a. sum_le n 1 _ (λ v. one_le (E u a v))) in
    let same : n * (q * (n * 1)) ≡ n * n * q = ap (λ k. n * (q * k)) (mul-one n) ∙ ap (λ k. n * k) (mul_comm q n) ∙ sym (mul_assoc n n q) in
    subst (λ (k : ℕ). count n q E ≤ k) same (sum_le n (q * (n * 1)) _ inner)
