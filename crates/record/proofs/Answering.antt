-- Where the tables keep exactly the pairs that satisfying assignments use, the tuples that fit are the answers.
use Rattle.std.proofs.Common.{◌≡◌, ℕ, zero, suc, ◌<◌, true, ◌⊎◌, ◌↔◌, List, length, get_or, sym, refl, ap, ◌∙◌, subst, inl, inr, ⊎_elim, arith}
use Rattle.std.proofs.lemmas.Bool.{cases_eq, cases_lt}
use Rattle.meaning.specs.Answers.{Query, Pair, Satisfying, Kept, Answer}
use Rattle.meaning.specs.Assignments.{Relations, Satisfies}
use Rattle.meaning.specs.Graphs.{Graph}
use Rattle.meaning.specs.Shapes.{Atoms, Has, Joins}
use Rattle.meaning.specs.Tuples.{node}
use Rattle.order.specs.Orders.{Ordered}
use Rattle.order.specs.Ranks.{Ranks}
use Rattle.joins.specs.Passes.{plan}
use Rattle.joins.specs.Plans.{Plan, Hangs, Exact, Occurs, at_variable}
use Rattle.joins.proofs.Extending as extending
use Rattle.joins.proofs.Passing.{at_assigned}
use Rattle.record.specs.Calls.{Fits}

-- the first atom of m that has a variable, if any does
pub first_having : (q : Atoms) (x m : ℕ) → ((c : ℕ) → c < m → Has q c x → ⊥) ⊎ ((c : ℕ) × (c < m) × Has q c x × ((d : ℕ) → d < c → Has q d x → ⊥))
first_having q x zero = inl (λ c l h. omega arith)
first_having q x (suc m) = elim (first_having q x m) [
  | inr p ↦ inr (p.0, omega (arith, p.1), p.2, p.3)
  | inl none ↦ elim (has m) [
    | inl h ↦ inr (m, omega arith, h, none)
    | inr n ↦ inl (λ c l h. ⊎_elim (λ (e : c ≡ m). n (subst (λ (y : ℕ). Has q y x) e h)) (λ (d : c ≡ m → ⊥). none c (omega arith) h) (cases_eq c m))
  ]
]
  where
    has : (c : ℕ) → Has q c x ⊎ (Has q c x → ⊥)
    has c = elim (cases_eq (q.first c) x) [ inl e ↦ inl (inl e) | inr d ↦ elim (cases_eq (q.second c) x) [ inl e ↦ inl (inr e) | inr f ↦ inr (λ h. ⊎_elim d f h) ] ]

-- an atom of m that joins two variables, if any does
joining : (q : Atoms) (x y m : ℕ) → ((c : ℕ) → c < m → Joins q c x y → ⊥) ⊎ ((c : ℕ) × (c < m) × Joins q c x y)
joining q x y zero = inl (λ c l h. omega arith)
joining q x y (suc m) = elim (joining q x y m) [
  | inr p ↦ inr (p.0, omega (arith, p.1), p.2)
  | inl none ↦ elim (joins m) [
    | inl h ↦ inr (m, omega arith, h)
    | inr n ↦ inl (λ c l h. ⊎_elim (λ (e : c ≡ m). n (subst (λ (z : ℕ). Joins q z x y) e h)) (λ (d : c ≡ m → ⊥). none c (omega arith) h) (cases_eq c m))
  ]
]
  where
    both : (a b c d : ℕ) → ((a ≡ c) × (b ≡ d)) ⊎ ((a ≡ c) × (b ≡ d) → ⊥)
    both a b c d = elim (cases_eq a c) [ inl e ↦ elim (cases_eq b d) [ inl f ↦ inl (e, f) | inr f ↦ inr (λ h. f h.1) ] | inr e ↦ inr (λ h. e h.0) ]

    joins : (c : ℕ) → Joins q c x y ⊎ (Joins q c x y → ⊥)
    joins c = elim (both (q.first c) (q.second c) x y) [
      | inl e ↦ inl (inl e)
      | inr d ↦ elim (both (q.first c) (q.second c) y x) [ inl e ↦ inl (inr e) | inr f ↦ inr (λ h. ⊎_elim d f h) ]
    ]

-- an earlier variable of the head that shares an atom with x, if any does
pub linking : (q : Atoms) (h : List ℕ) (x m k : ℕ) → ((j c : ℕ) → (j < k) × (c < m) × Joins q c (get_or h j 0) x → ⊥) ⊎ ((j : ℕ) × (c : ℕ) × (j < k) × (c < m) × Joins q c (get_or h j 0) x)
linking q h x m zero = inl (λ j c e. omega (arith, e.0))
linking q h x m (suc k) = elim (linking q h x m k) [
  | inr p ↦ inr (p.0, p.1, omega (arith, p.2), p.3, p.4)
  | inl none ↦ elim (joining q (get_or h k 0) x m) [
    | inr p ↦ inr (k, p.0, omega arith, p.1, p.2)
    | inl n ↦ inl (λ j c e. ⊎_elim (λ (z : j ≡ k). n c e.1 (subst (λ (y : ℕ). Joins q c (get_or h y 0) x) z e.2)) (λ (d : j ≡ k → ⊥). none j c (omega (arith, e.0), e.1, e.2)) (cases_eq j k))
  ]
]

module _ (g : Graph) (Q : Query) (t : Relations) (keeps : (c u v : ℕ) → c < Q.count → (t c u v ≡ true) ↔ Kept g Q c u v) where
  -- assignments that satisfy the tables are those that satisfy the query
  satisfying_from : (f : ℕ → ℕ) → Satisfies Q.atoms Q.count t f → Satisfying g Q f
  satisfying_from f all c l =
      let k = (keeps c (f (Q.atoms.first c)) (f (Q.atoms.second c)) l).0 (all c l) in
      subst (λ (y : ℕ). Pair g Q c y (f (Q.atoms.second c))) k.2 (subst (λ (y : ℕ). Pair g Q c (k.0 (Q.atoms.first c)) y) k.3 (k.1 c l))

  satisfies_from : (f : ℕ → ℕ) → Satisfying g Q f → Satisfies Q.atoms Q.count t f
  satisfies_from f all c l = (keeps c (f (Q.atoms.first c)) (f (Q.atoms.second c)) l).1 (f, all, refl, refl)

  pub tables_exact : Exact Q.atoms Q.count t t
  tables_exact c u v l = (
    (λ h. let k = (keeps c u v l).0 h in (k.0, satisfies_from k.0 k.1, k.2, k.3)),
    λ h. (keeps c u v l).1 (h.0, satisfying_from h.0 h.1, h.2, h.3),
  )

  module _ (x : ℕ) (a : Ranks) (o : Ordered Q.atoms Q.count x a)
      (distinct : (i j : ℕ) → i < j → j < length Q.head → get_or Q.head i 0 ≡ get_or Q.head j 0 → ⊥)
      (used : (i : ℕ) → i < length Q.head → ((c : ℕ) → c < Q.count → Has Q.atoms c (get_or Q.head i 0) → ⊥) → ⊥)
      (connex : (i : ℕ) → i < length Q.head → 0 < i → ((j c : ℕ) → (j < i) × (c < Q.count) × Joins Q.atoms c (get_or Q.head j 0) (get_or Q.head i 0) → ⊥) → ⊥)
      (some : 0 < length Q.head) where
    abbrev q : Atoms
    q = Q.atoms

    abbrev m : ℕ
    m = Q.count

    abbrev P : Plan
    P = plan q m a

    hangs : Hangs P
    hangs = record { before = o.tree.before; ends = o.tree.ends; apart = o.tree.apart; joined = o.tree.joined; new = o.tree.new }

    down : (f : ℕ → ℕ) → Satisfies q m t f → Satisfies P.atoms m (λ i. t (a.at i)) f
    down f all i l = all (a.at i) (o.into i l)

    up : (f : ℕ → ℕ) → Satisfies P.atoms m (λ i. t (a.at i)) f → Satisfies q m t f
    up f all c l = let F : ℕ → Type 0 = λ d. t d (f (q.first d)) (f (q.second d)) ≡ true in subst F (o.back c l) (all (a.rank c) (o.onto c l))

    exact : Exact P.atoms m (λ i. t (a.at i)) (λ i. t (a.at i))
    exact i u v l =
        let e = tables_exact (a.at i) u v (o.into i l) in
        ((λ h. let k = e.0 h in (k.0, down k.0 k.1, k.2, k.3)), λ k. e.1 (k.0, up k.0 k.1, k.2, k.3))

    head : extending.Head P
    head = record {
      count = length Q.head;
      name = λ i. get_or Q.head i 0;
      differ = λ i j il jl e. elim (cases_eq i j) [
        | inl z ↦ z
        | inr d ↦ elim (cases_lt i j) [ inl l ↦ absurd (distinct i j l jl e) | inr l ↦ absurd (distinct j i (omega arith) il (sym e)) ]
      ];
      linked = λ k pos kl. elim (linking q Q.head (get_or Q.head k 0) m k) [
        | inl none ↦ absurd (connex k kl pos none)
        | inr p ↦ (p.0, a.rank p.1, p.2, o.onto p.1 p.3, subst (λ (y : ℕ). Joins q y (get_or Q.head p.0 0) (get_or Q.head k 0)) (sym (o.back p.1 p.3)) p.4)
      ];
    }

    pub answers_from : (n : ℕ) (xs : List ℕ) → Fits Q.head q m t n xs → Answer g Q xs
    unfolding head
    answers_from n xs fits =
        let first : (c : ℕ) × (c < m) × Has q c (get_or Q.head 0 0) × ((d : ℕ) → d < c → Has q d (get_or Q.head 0 0) → ⊥) = (elim (first_having q (get_or Q.head 0 0) m) [ inl none ↦ absurd (used 0 some none) | inr p ↦ p ]) in
        let F : ℕ → Type 0 = λ y. Has q y (get_or Q.head 0 0) × Occurs q t y (get_or Q.head 0 0) (node xs 0) in
        let here : F first.0 = (first.2, fits.stands first.0 first.1 first.2 first.3) in
        let ranked : F (a.at (a.rank first.0)) = subst F (sym (o.back first.0 first.1)) here in
        let e = extending.free_extends P head (λ i. t (a.at i)) (λ i. t (a.at i)) (node xs) hangs exact (record {
          pairs = λ c i j l il jl u v. fits.pairs (a.at c) i j (o.into c l) il jl u v;
          first = (a.rank first.0, o.onto first.0 first.1, ranked.0, ranked.1);
        }) in
        (e.0, satisfying_from e.0 (up e.0 e.1), e.2)

    pub answers_to : (xs : List ℕ) → Answer g Q xs → Fits Q.head q m t g.nodes xs
    answers_to xs (f, all, at_head) = record {
      within = λ i il. elim (first_having q (get_or Q.head i 0) m) [
        | inl none ↦ absurd (used i il none)
        | inr p ↦ (let F : ℕ → Type 0 = λ y. y < g.nodes in let k = all p.0 p.1 in
            elim p.2 [ inl e ↦ subst F (ap f e ∙ at_head i il) k.0 | inr e ↦ subst F (ap f e ∙ at_head i il) k.1 ])
      ];
      pairs = λ c i j l il jl u v.
          ap (λ (y : ℕ). t c y (node xs j)) (sym (ap f u ∙ at_head i il)) ∙ ap (t c (f (q.first c))) (sym (ap f v ∙ at_head j jl)) ∙ satisfies_from f all c l;
      stands = λ c l has none. (f (q.first c), f (q.second c), satisfies_from f all c l, meets c has ∙ at_head 0 some);
    }
      where
        meets : (c : ℕ) → Has q c (get_or Q.head 0 0) → at_variable q c (get_or Q.head 0 0) (f (q.first c)) (f (q.second c)) ≡ f (get_or Q.head 0 0)
        meets c has = at_assigned (record { count = m; atoms = q; parent = a.parent; shared = a.shared; fresh = a.fresh }) c (get_or Q.head 0 0) f has
