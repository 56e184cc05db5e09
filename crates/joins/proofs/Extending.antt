-- A tuple that fits exact tables is part of a satisfying assignment: two assignments that agree at a variable are joined along a cut of the tree.
use Rattle.std.proofs.Common.{◌≡◌, ℕ, zero, suc, pred, ◌<◌, ◌≤◌, Bool, true, false, cond, not, eqb, ◌⊎◌, sym, refl, ap, ◌∙◌, subst, inl, inr, arith}
use Rattle.std.proofs.lemmas.Bool.{eq-eqb, ne_eqb, cases_eq, cond-true, cond-false, cases_Bool}
use Rattle.meaning.specs.Assignments.{Relations, Satisfies}
use Rattle.meaning.specs.Shapes.{Has, Joins}
use Rattle.joins.specs.Plans.{Plan, Hangs, at_variable, Occurs, Exact}
use Rattle.joins.proofs.Passing.{at_assigned}

-- the free variables, of which each after the first shares an atom with an earlier one
pub record Head (q : Plan) : Type 0 where
  pub count : ℕ
  pub name : ℕ → ℕ
  pub differ : (i j : ℕ) → i < count → j < count → name i ≡ name j → i ≡ j
  pub linked : (k : ℕ) → 0 < k → k < count → (j : ℕ) × (c : ℕ) × (j < k) × (c < q.count) × Joins q.atoms c (name j) (name k)

-- a tuple g fits the tables t
pub record Fits (q : Plan) (s : Head q) (t : Relations) (g : ℕ → ℕ) : Type 0 where
  pub pairs : (c i j : ℕ) → c < q.count → i < s.count → j < s.count → q.atoms.first c ≡ s.name i → q.atoms.second c ≡ s.name j → t c (g i) (g j) ≡ true
  pub first : (c : ℕ) × (c < q.count) × Has q.atoms c (s.name 0) × Occurs q.atoms t c (s.name 0) (g 0)

-- the variables on the far side of atom c, that of its fresh variable: every other atom up to k has both variables on one side
pub record Cut (q : Plan) (k c x y : ℕ) : Type 0 where
  pub far : ℕ → Bool
  pub near_end : far x ≡ false
  pub far_end : far y ≡ true
  pub same : (i : ℕ) → i ≤ k → (i ≡ c → ⊥) → far (q.atoms.first i) ≡ far (q.atoms.second i)

-- a side changed at one variable
put : (ℕ → Bool) → ℕ → Bool → ℕ → Bool
put f y b x = cond (eqb x y) b (f x)

put_self : (f : ℕ → Bool) (y : ℕ) (b : Bool) → put f y b y ≡ b
unfolding put
put_self f y b = cond-true (eqb y y) b (f y) (eq-eqb y y refl)

put_other : (f : ℕ → Bool) (y : ℕ) (b : Bool) (x : ℕ) → (x ≡ y → ⊥) → put f y b x ≡ f x
unfolding put
put_other f y b x ne = cond-false (eqb x y) b (f x) (ne_eqb x y ne)

module _ (q : Plan) (tree : Hangs q) where
  -- atom k's fresh variable alone is far
  cut_last : (k : ℕ) → k < q.count → Cut q k k (q.shared k) (q.fresh k)
  cut_last k le = record {
    far = λ x. eqb x (q.fresh k);
    near_end = ne_eqb (q.shared k) (q.fresh k) (tree.apart k le);
    far_end = eq-eqb (q.fresh k) (q.fresh k) refl;
    same = λ i ik ne. let lt : i < k = omega arith in
        ne_eqb (q.atoms.first i) (q.fresh k) (λ e. tree.new k i le lt (inl e)) ∙ sym (ne_eqb (q.atoms.second i) (q.fresh k) (λ e. tree.new k i le lt (inr e)));
  }

  cut : (k : ℕ) → k < q.count → (c : ℕ) → c ≤ k → Cut q k c (q.shared c) (q.fresh c)
  cut zero le c ck = (let F : ℕ → Type 0 = λ i. Cut q 0 i (q.shared i) (q.fresh i) in let e : 0 ≡ c = omega arith in subst F e (cut_last 0 le))
  cut (suc k) le c ck = elim (cases_eq (suc k) c) [
    | inl e ↦ (let F : ℕ → Type 0 = λ i. Cut q (suc k) i (q.shared i) (q.fresh i) in subst F e (cut_last (suc k) le))
    | inr d ↦
        (let lt : c < suc k = omega arith in
        let cle : c < q.count = omega arith in
        let r = cut k (omega arith) c (omega arith) in
        let y = q.fresh (suc k) in
        let b = r.far (q.shared (suc k)) in
        let g = put r.far y b in
        let sh : Has q.atoms c (q.shared c) = elim (tree.ends c cle) [ inl e ↦ inl e.0 | inr e ↦ inr e.1 ] in
        let fr : Has q.atoms c (q.fresh c) = elim (tree.ends c cle) [ inl e ↦ inr e.1 | inr e ↦ inl e.0 ] in
        record {
          far = g;
          near_end = put_other r.far y b (q.shared c) (λ e. let F : ℕ → Type 0 = λ z. Has q.atoms c z in tree.new (suc k) c le lt (subst F e sh)) ∙ r.near_end;
          far_end = put_other r.far y b (q.fresh c) (λ e. let F : ℕ → Type 0 = λ z. Has q.atoms c z in tree.new (suc k) c le lt (subst F e fr)) ∙ r.far_end;
          same = λ i ik ne. elim (cases_eq i (suc k)) [
            | inl e ↦ (let F : ℕ → Type 0 = λ j. g (q.atoms.first j) ≡ g (q.atoms.second j) in
                let at_shared : g (q.shared (suc k)) ≡ b = put_other r.far y b (q.shared (suc k)) (tree.apart (suc k) le) in
                let at_fresh : g y ≡ b = put_self r.far y b in
                subst F (sym e) (elim (tree.ends (suc k) le) [
                  | inl z ↦ ap g z.0 ∙ at_shared ∙ sym at_fresh ∙ sym (ap g z.1)
                  | inr z ↦ ap g z.0 ∙ at_fresh ∙ sym at_shared ∙ sym (ap g z.1)
                ]))
            | inr ne' ↦ (let il : i < suc k = omega arith in
                put_other r.far y b (q.atoms.first i) (λ e. tree.new (suc k) i le il (inl e)) ∙ r.same i (omega arith) ne
                ∙ sym (put_other r.far y b (q.atoms.second i) (λ e. tree.new (suc k) i le il (inr e))))
          ];
        })
  ]

  flip : (k c x y : ℕ) → Cut q k c x y → Cut q k c y x
  flip k c x y r = record {
    far = λ z. not (r.far z);
    near_end = ap not r.far_end;
    far_end = ap not r.near_end;
    same = λ i ik ne. ap not (r.same i ik ne);
  }

  cut_at : (c x y : ℕ) → c < q.count → Joins q.atoms c x y → Cut q (pred q.count) c x y
  cut_at c x y le ends =
      let r = cut (pred q.count) (omega arith) c (omega arith) in
      let s = q.shared c in
      let f = q.fresh c in
      let move : (a b : ℕ) → s ≡ a → f ≡ b → Cut q (pred q.count) c a b =
      λ a b e d. (let F : ℕ → Type 0 = λ z. Cut q (pred q.count) c z b in let G : ℕ → Type 0 = λ z. Cut q (pred q.count) c s z in subst F e (subst G d r)) in
      elim (tree.ends c le) [
        | inl z ↦ elim ends [ inl e ↦ move x y (sym z.0 ∙ e.0) (sym z.1 ∙ e.1) | inr e ↦ flip (pred q.count) c y x (move y x (sym z.0 ∙ e.0) (sym z.1 ∙ e.1)) ]
        | inr z ↦ elim ends [ inl e ↦ flip (pred q.count) c y x (move y x (sym z.1 ∙ e.1) (sym z.0 ∙ e.0)) | inr e ↦ move x y (sym z.1 ∙ e.1) (sym z.0 ∙ e.0) ]
      ]

-- two assignments that agree at the near end, joined along a cut
both : (ℕ → Bool) → (ℕ → ℕ) → (ℕ → ℕ) → ℕ → ℕ
both far f h z = cond (far z) (h z) (f z)

both_near : (far : ℕ → Bool) (f h : ℕ → ℕ) (z : ℕ) → far z ≡ false → both far f h z ≡ f z
unfolding both
both_near far f h z e = cond-false (far z) (h z) (f z) e

both_far : (far : ℕ → Bool) (f h : ℕ → ℕ) (z : ℕ) → far z ≡ true → both far f h z ≡ h z
unfolding both
both_far far f h z e = cond-true (far z) (h z) (f z) e

both_full : (q : Plan) (t : Relations) (c x y : ℕ) (f h : ℕ → ℕ) → Joins q.atoms c x y → (u : Cut q (pred q.count) c x y) → Satisfies q.atoms q.count t f → Satisfies q.atoms q.count t h → f x ≡ h x → Satisfies q.atoms q.count t (both u.far f h)
both_full q t c x y f h ends u ff fh agree i ile =
    let g = both u.far f h in
    let like : (k : ℕ → ℕ) → g (q.atoms.first i) ≡ k (q.atoms.first i) → g (q.atoms.second i) ≡ k (q.atoms.second i) → Satisfies q.atoms q.count t k → t i (g (q.atoms.first i)) (g (q.atoms.second i)) ≡ true =
    λ k a b full. ap (λ z. t i z (g (q.atoms.second i))) a ∙ ap (λ z. t i (k (q.atoms.first i)) z) b ∙ full i ile in
    let at_x : g x ≡ h x = both_near u.far f h x u.near_end ∙ agree in
    let at_y : g y ≡ h y = both_far u.far f h y u.far_end in
    elim (cases_eq i c) [
      | inl e ↦ elim ends [
        | inl z ↦ like h (ap (λ j. g (q.atoms.first j)) e ∙ ap g z.0 ∙ at_x ∙ sym (ap h z.0) ∙ sym (ap (λ j. h (q.atoms.first j)) e))
            (ap (λ j. g (q.atoms.second j)) e ∙ ap g z.1 ∙ at_y ∙ sym (ap h z.1) ∙ sym (ap (λ j. h (q.atoms.second j)) e)) fh
        | inr z ↦ like h (ap (λ j. g (q.atoms.first j)) e ∙ ap g z.0 ∙ at_y ∙ sym (ap h z.0) ∙ sym (ap (λ j. h (q.atoms.first j)) e))
            (ap (λ j. g (q.atoms.second j)) e ∙ ap g z.1 ∙ at_x ∙ sym (ap h z.1) ∙ sym (ap (λ j. h (q.atoms.second j)) e)) fh
      ]
      | inr d ↦ elim (cases_Bool (u.far (q.atoms.first i))) [
        | inl b ↦ like h (both_far u.far f h (q.atoms.first i) b) (both_far u.far f h (q.atoms.second i) (sym (u.same i (omega arith) d) ∙ b)) fh
        | inr b ↦ like f (both_near u.far f h (q.atoms.first i) b) (both_near u.far f h (q.atoms.second i) (sym (u.same i (omega arith) d) ∙ b)) ff
      ]
    ]

-- both variables of a atom on one side
ends_same : (q : Plan) (k c i x y a b : ℕ) → (u : Cut q k c x y) → i ≤ k → (i ≡ c → ⊥) → Joins q.atoms i a b → u.far b ≡ u.far a
ends_same q k c i x y a b u ile ne ends = elim ends [
  | inl z ↦ sym (ap u.far z.1) ∙ sym (u.same i ile ne) ∙ ap u.far z.0
  | inr z ↦ sym (ap u.far z.0) ∙ u.same i ile ne ∙ ap u.far z.1
]

-- two atoms that are the same have the same variables
ends_meet : (q : Plan) (i c a b x y : ℕ) → i ≡ c → Joins q.atoms i a b → Joins q.atoms c x y → (y ≡ a) ⊎ (y ≡ b)
ends_meet q i c a b x y e ends ends' =
    let e1 = ap q.atoms.first e in
    let e2 = ap q.atoms.second e in
    elim ends [
      | inl z ↦ elim ends' [ inl w ↦ inr (sym w.1 ∙ sym e2 ∙ z.1) | inr w ↦ inl (sym w.0 ∙ sym e1 ∙ z.0) ]
      | inr z ↦ elim ends' [ inl w ↦ inl (sym w.1 ∙ sym e2 ∙ z.1) | inr w ↦ inr (sym w.0 ∙ sym e1 ∙ z.0) ]
    ]

module _ (q : Plan) (tree : Hangs q) (s : Head q) where
  -- the free variables up to k are all on the side of the first
  near_all : (k c x : ℕ) → suc k < s.count → Joins q.atoms c x (s.name (suc k)) → (u : Cut q (pred q.count) c x (s.name (suc k)))
      → (b i : ℕ) → i ≤ b → i ≤ k → u.far (s.name i) ≡ u.far (s.name 0)
  near_all k c x lt ends u zero i ib ik = let e : i ≡ 0 = omega arith in ap (λ j. u.far (s.name j)) e
  near_all k c x lt ends u (suc b) i ib ik = elim (cases_eq i 0) [
    | inl e ↦ ap (λ j. u.far (s.name j)) e
    | inr d ↦
        (let l = s.linked i (omega arith) (omega arith) in
        let jl : l.0 < i = l.2 in
        let ne : l.1 ≡ c → ⊥ = λ e. elim (ends_meet q l.1 c (s.name l.0) (s.name i) x (s.name (suc k)) e l.4 ends) [
          | inl z ↦ (let w : suc k ≡ l.0 = s.differ (suc k) l.0 lt (omega arith) z in omega arith)
          | inr z ↦ (let w : suc k ≡ i = s.differ (suc k) i lt (omega arith) z in omega arith)
        ] in
        ends_same q (pred q.count) c l.1 x (s.name (suc k)) (s.name l.0) (s.name i) u (omega (arith, l.3)) ne l.4 ∙ near_all k c x lt ends u b l.0 (omega arith) (omega arith))
  ]

  module _ (r t : Relations) (g : ℕ → ℕ) (exact : Exact q.atoms q.count r t) (fits : Fits q s t g) where
    pair_assignment : (c j k : ℕ) → c < q.count → j < s.count → k < s.count → Joins q.atoms c (s.name j) (s.name k)
        → (h : ℕ → ℕ) × Satisfies q.atoms q.count r h × (h (s.name j) ≡ g j) × (h (s.name k) ≡ g k)
    pair_assignment c j k cle jl kl ends = elim ends [
      | inl z ↦ (let w = (exact c (g j) (g k) cle).0 (fits.pairs c j k cle jl kl z.0 z.1) in
          (w.0, w.1, sym (ap w.0 z.0) ∙ w.2, sym (ap w.0 z.1) ∙ w.3))
      | inr z ↦ (let w = (exact c (g k) (g j) cle).0 (fits.pairs c k j cle kl jl z.0 z.1) in
          (w.0, w.1, sym (ap w.0 z.1) ∙ w.3, sym (ap w.0 z.0) ∙ w.2))
    ]

    extended : (k : ℕ) → k < s.count → (f : ℕ → ℕ) × Satisfies q.atoms q.count r f × ((i : ℕ) → i ≤ k → f (s.name i) ≡ g i)
    extended zero lt =
        let a = fits.first in
        let o = a.3 in
        let w = (exact a.0 o.0 o.1 a.1).0 o.2 in
        let f = w.0 in
        let e : f (s.name 0) ≡ g 0 = sym (at_assigned q a.0 (s.name 0) f a.2)
        ∙ ap (λ z. at_variable q.atoms a.0 (s.name 0) z (f (q.atoms.second a.0))) w.2 ∙ ap (λ z. at_variable q.atoms a.0 (s.name 0) o.0 z) w.3 ∙ o.3 in
        (f, w.1, λ i i0. let z : i ≡ 0 = omega arith in ap (λ j. f (s.name j)) z ∙ e ∙ sym (ap g z))
    extended (suc k) lt =
        let l = s.linked (suc k) (omega arith) lt in
        let jl : l.0 < suc k = l.2 in
        let c = l.1 in
        let x = s.name l.0 in
        let y = s.name (suc k) in
        let p = extended k (omega arith) in
        let h = pair_assignment c l.0 (suc k) l.3 (omega arith) lt l.4 in
        let u = cut_at q tree c x y l.3 l.4 in
        let near : (i : ℕ) → i ≤ k → u.far (s.name i) ≡ false = λ i ik.
        near_all k c x lt l.4 u i i (omega arith) ik ∙ sym (near_all k c x lt l.4 u l.0 l.0 (omega arith) (omega arith)) ∙ u.near_end in (
          both u.far p.0 h.0,
          both_full q r c x y p.0 h.0 l.4 u p.1 h.1 (p.2 l.0 (omega arith) ∙ sym h.2),
          λ i ik. elim (cases_eq i (suc k)) [
            | inl e ↦ (let F : ℕ → Type 0 = λ j. both u.far p.0 h.0 (s.name j) ≡ g j in
                subst F (sym e) (both_far u.far p.0 h.0 y u.far_end ∙ h.3))
            | inr d ↦ (let il : i ≤ k = omega arith in both_near u.far p.0 h.0 (s.name i) (near i il) ∙ p.2 i il)
          ],
        )

pub free_extends : (q : Plan) (s : Head q) (r t : Relations) (g : ℕ → ℕ) → Hangs q → Exact q.atoms q.count r t → Fits q s t g → (f : ℕ → ℕ) × Satisfies q.atoms q.count r f × ((i : ℕ) → i < s.count → f (s.name i) ≡ g i)
free_extends q s r t g tree exact fits = elim (cases_eq s.count 0) [
  | inl e ↦ (let a = fits.first in let o = a.3 in let w = (exact a.0 o.0 o.1 a.1).0 o.2 in (w.0, w.1, λ i lt. absurd (omega arith)))
  | inr d ↦ (let p = extended q tree s r t g exact fits (pred s.count) (omega arith) in (p.0, p.1, λ i lt. p.2 i (omega arith)))
]
