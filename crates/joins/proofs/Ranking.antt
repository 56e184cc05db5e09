-- Semijoins by rank, and the two passes.
use Rattle.std.proofs.Common.{◌≡◌, ℕ, suc, ◌+◌, ◌-◌, ◌<◌, ◌≤◌, true, ltb, List, sym, refl, ap, ◌∙◌, subst, arith}
use Rattle.std.proofs.lemmas.Bool.{and_parts, and_from, lt-ltb, ltb-true}
use Rattle.meaning.specs.Assignments.{Relations, Satisfies}
use Rattle.meaning.specs.Shapes.{Atoms}
use Rattle.order.specs.Orders.{Ordered}
use Rattle.order.specs.Ranks.{Ranks}
use Rattle.joins.specs.Plans.{Hangs, Semijoin, Exact, Upper, Lower}
use Rattle.joins.specs.Layouts.{tables, Ready, Reduced}
use Rattle.joins.specs.Passes.{plan, by, Climbed, Descended, Passed}
use Rattle.joins.proofs.Passing.{upper_more, lower_more, lower_all}

module _ (q : Atoms) (m x : ℕ) (a : Ranks) (o : Ordered q m x a) where
  hangs : Hangs (plan q m a)
  hangs = record { before = o.tree.before; ends = o.tree.ends; apart = o.tree.apart; joined = o.tree.joined; new = o.tree.new }

  by_parts : (t : Relations) (i u v : ℕ) → by m a t i u v ≡ true → (i < m) × (t (a.at i) u v ≡ true)
  by_parts t i u v h = let p = and_parts (ltb i m) (t (a.at i) u v) h in (ltb-true i m p.0, p.1)

  by_from : (t : Relations) (i u v : ℕ) → i < m → t (a.at i) u v ≡ true → by m a t i u v ≡ true
  by_from t i u v lt h = and_from (ltb i m) (t (a.at i) u v) (lt-ltb i m lt) h

  once : (i j : ℕ) → i < m → j < m → a.at i ≡ a.at j → i ≡ j
  once i j il jl e = sym (o.there i il) ∙ ap a.rank e ∙ o.there j jl

  semi_ranked : (t s : Relations) (p c y : ℕ) → p < m → c < m → Semijoin q t s (a.at p) (a.at c) y → Semijoin (plan q m a).atoms (by m a t) (by m a s) p c y
  semi_ranked t s p c y pl cl semi = record {
    kept = λ j u v h. let b = by_parts s j u v h in by_from t j u v b.0 (semi.kept (a.at j) u v b.1);
    support = λ u v h. let b = by_parts s p u v h in let k = semi.support u v b.1 in (k.0, k.1, by_from t c k.0 k.1 cl k.2, k.3);
    stays = λ j u v h need. let b = by_parts t j u v h in
        by_from s j u v b.0 (semi.stays (a.at j) u v b.1 (λ e.
        let k = need (once j p b.0 pl e) in (k.0, k.1, (by_parts t c k.0 k.1 k.2).1, k.3)));
  }

  module _ (n w : ℕ) where
    pub climbed_none : (s : List ℕ) → Ready s m n w → Climbed q m a s s n w m
    climbed_none s ready = record {
      upper = record { within = λ j u v h. h; sound = λ f h. h; upper = λ j jpos kj jle u v h. absurd (omega arith) };
      ready = ready;
      rest = λ i il. refl;
    }

    pub climbed_more : (s t r : List ℕ) (k : ℕ) → 1 < k → k ≤ m → Climbed q m a s t n w k
        → Reduced q t r m n w (a.at (a.parent (k - 1))) (a.at (k - 1)) (a.shared (k - 1)) → Climbed q m a s r n w (k - 1)
    climbed_more s t r k low high c d =
        let F : ℕ → Type 0 = λ j. Upper (plan q m a) (by m a (tables s m n w)) (by m a (tables t m n w)) j in
        let e : k ≡ suc (k - 1) = omega arith in
        let bef = o.tree.before (k - 1) (omega arith) (omega arith) in
        record {
          upper = upper_more (plan q m a) hangs (by m a (tables s m n w)) (by m a (tables t m n w)) (by m a (tables r m n w)) (k - 1) (omega arith) (omega arith)
              (subst F e c.upper) (semi_ranked (tables t m n w) (tables r m n w) (a.parent (k - 1)) (k - 1) (a.shared (k - 1)) (omega arith) (omega arith) d.semi);
          ready = d.ready;
          rest = λ i il. d.rest i il ∙ c.rest i il;
        }

    pub climbed_all : (s t : List ℕ) (k : ℕ) → k ≤ 1 → Climbed q m a s t n w k → Climbed q m a s t n w 1
    climbed_all s t k le c = record {
      upper = record { within = c.upper.within; sound = c.upper.sound; upper = λ j jpos kj jle u v h. c.upper.upper j jpos (omega arith) jle u v h };
      ready = c.ready;
      rest = c.rest;
    }

    pub descended_none : (s : List ℕ) → Ready s m n w → Descended q m a s s n w 1
    descended_none s ready = record {
      lower = λ r up. record { ups = up; lower = λ j jpos jlt jle u v h. absurd (omega arith) };
      ready = ready;
      rest = λ i il. refl;
    }

    pub descended_more : (s t r : List ℕ) (i : ℕ) → 0 < i → i < m → Descended q m a s t n w i
        → Reduced q t r m n w (a.at i) (a.at (a.parent i)) (a.shared i) → Descended q m a s r n w (i + 1)
    descended_more s t r i low high c d =
        let e : suc i ≡ i + 1 = omega arith in
        let bef = o.tree.before i low high in
        record {
          lower = λ raw up. (let F : ℕ → Type 0 = λ j. Lower (plan q m a) raw (by m a (tables r m n w)) j in
              subst F e (lower_more (plan q m a) hangs raw (by m a (tables t m n w)) (by m a (tables r m n w)) i low high
              (c.lower raw up) (semi_ranked (tables t m n w) (tables r m n w) i (a.parent i) (a.shared i) high (omega arith) d.semi)));
          ready = d.ready;
          rest = λ i il. d.rest i il ∙ c.rest i il;
        }

    pub descended_all : (s t : List ℕ) (k : ℕ) → m ≤ k → Descended q m a s t n w k → Descended q m a s t n w m
    descended_all s t k le c = record {
      lower = λ r up. (let z = c.lower r up in record { ups = z.ups; lower = λ j jpos jlt jle u v h. z.lower j jpos (omega arith) jle u v h });
      ready = c.ready;
      rest = c.rest;
    }

  -- exact by rank is exact in the order of the text
  satisfies_text : (r : Relations) (f : ℕ → ℕ) → Satisfies (plan q m a).atoms m (by m a r) f → Satisfies q m r f
  satisfies_text r f all c lt =
      let F : ℕ → Type 0 = λ d. r d (f (q.first d)) (f (q.second d)) ≡ true in
      subst F (o.back c lt) (by_parts r (a.rank c) _ _ (all (a.rank c) (o.onto c lt))).1

  satisfies_ranked : (r : Relations) (f : ℕ → ℕ) → Satisfies q m r f → Satisfies (plan q m a).atoms m (by m a r) f
  satisfies_ranked r f all i lt = by_from r i _ _ lt (all (a.at i) (o.into i lt))

  exact_text : (r t : Relations) → Exact (plan q m a).atoms m (by m a r) (by m a t) → Exact q m r t
  exact_text r t exact c u v lt =
      let i = a.rank c in
      let il = o.onto c lt in
      let b = o.back c lt in
      let e = exact i u v il in
      let o1 : q.first (a.at i) ≡ q.first c = ap q.first b in
      let o2 : q.second (a.at i) ≡ q.second c = ap q.second b in (
        (λ h. let z = e.0 (by_from t i u v il (ap (λ (d : ℕ). t d u v) b ∙ h)) in
            (z.0, satisfies_text r z.0 z.1, sym (ap z.0 o1) ∙ z.2, sym (ap z.0 o2) ∙ z.3)),
        (λ z. sym (ap (λ (d : ℕ). t d u v) b) ∙ (by_parts t i u v (e.1 (z.0, satisfies_ranked r z.0 z.1, ap z.0 o1 ∙ z.2, ap z.0 o2 ∙ z.3))).1),
      )

  pub passed_from : (n w : ℕ) (s t r : List ℕ) → Climbed q m a s t n w 1 → Descended q m a t r n w m → Passed q m s r n w
  passed_from n w s t r c d =
      let raw = by m a (tables s m n w) in
      record {
        exact = exact_text (tables s m n w) (tables r m n w) (lower_all (plan q m a) hangs raw (by m a (tables r m n w)) (d.lower raw c.upper));
        ready = d.ready;
        rest = λ i il. d.rest i il ∙ c.rest i il;
      }
