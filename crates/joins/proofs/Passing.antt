-- The two passes of semijoins over a tree of atoms leave exactly the pairs that satisfying assignments use.
use Rattle.std.proofs.Common.{◌≡◌, ℕ, zero, suc, pred, ◌<◌, ◌≤◌, true, cond, eqb, sym, refl, ap, ◌∙◌, subst, inl, inr, arith}
use Rattle.std.proofs.lemmas.Bool.{eq-eqb, ne_eqb, cases_eq, cond-true, cond-false}
use Rattle.meaning.specs.Assignments.{Relations, Satisfies}
use Rattle.meaning.specs.Shapes.{Has}
use Rattle.joins.specs.Plans.{Plan, Hangs, at_variable, Occurs, Semijoin, Exact, Upper, Lower}

at_first : (q : Plan) (i x u v : ℕ) → q.atoms.first i ≡ x → at_variable q.atoms i x u v ≡ u
at_first q i x u v e = cond-true (eqb x (q.atoms.first i)) u v (eq-eqb x (q.atoms.first i) (sym e))

at_second : (q : Plan) (i x u v : ℕ) → (q.atoms.first i ≡ x → ⊥) → at_variable q.atoms i x u v ≡ v
at_second q i x u v e = cond-false (eqb x (q.atoms.first i)) u v (ne_eqb x (q.atoms.first i) (λ h. e (sym h)))

-- an assignment has its own node at a variable of the atom
pub at_assigned : (q : Plan) (i x : ℕ) (f : ℕ → ℕ) → Has q.atoms i x → at_variable q.atoms i x (f (q.atoms.first i)) (f (q.atoms.second i)) ≡ f x
at_assigned q i x f has = elim has [
  | inl e ↦ at_first q i x _ _ e ∙ ap f e
  | inr e ↦ elim (cases_eq (q.atoms.first i) x) [
    | inl d ↦ at_first q i x _ _ d ∙ ap f d
    | inr d ↦ at_second q i x _ _ d ∙ ap f e
  ]
]

module _ (q : Plan) (tree : Hangs q) where
  has_shared : (i : ℕ) → i < q.count → Has q.atoms i (q.shared i)
  has_shared i le = elim (tree.ends i le) [ inl e ↦ inl e.0 | inr e ↦ inr e.1 ]

  -- another atom's pairs stay
  other_stays : (t s : Relations) (p c x : ℕ) → Semijoin q.atoms t s p c x → (j y w : ℕ) → (j ≡ p → ⊥) → Occurs q.atoms t j y w → Occurs q.atoms s j y w
  other_stays t s p c x semi j y w ne o = (o.0, o.1, semi.stays j o.0 o.1 o.2 (λ e. absurd (ne e)), o.3)

  satisfying_stays : (r t s : Relations) (p c x : ℕ) → c < q.count → Has q.atoms p x → Has q.atoms c x → Semijoin q.atoms t s p c x
      → ((f : ℕ → ℕ) → Satisfies q.atoms q.count r f → Satisfies q.atoms q.count t f) → (f : ℕ → ℕ) → Satisfies q.atoms q.count r f → Satisfies q.atoms q.count s f
  satisfying_stays r t s p c x le np nc semi sound f full j jle =
      semi.stays j _ _ (sound f full j jle) (λ e. (
        f (q.atoms.first c),
        f (q.atoms.second c),
        sound f full c le,
        at_assigned q c x f nc ∙ sym (at_assigned q j x f (let F : ℕ → Type 0 = λ k. Has q.atoms k x in subst F (sym e) np)),
      ))

  pub upper_more : (r t s : Relations) (i : ℕ) → 0 < i → i < q.count → Upper q r t (suc i) → Semijoin q.atoms t s (q.parent i) i (q.shared i) → Upper q r s i
  upper_more r t s i pos le up semi = record {
    within = λ j u v h. up.within j u v (semi.kept j u v h);
    sound = satisfying_stays r t s (q.parent i) i (q.shared i) le (tree.joined i pos le) (has_shared i le) semi up.sound;
    upper = λ j jpos ij jle u v h. elim (cases_eq i j) [
      | inl e ↦ (let F : ℕ → Type 0 = λ k. (s (q.parent k) u v ≡ true → Occurs q.atoms s k (q.shared k) (at_variable q.atoms (q.parent k) (q.shared k) u v)) in
          subst F e (λ g. other_stays t s _ _ _ semi i _ _ (λ d. omega (arith, tree.before i pos le)) (semi.support u v g))) h
      | inr d ↦ other_stays t s _ _ _ semi j _ _ (λ d'. omega (arith, tree.before i pos le)) (up.upper j jpos (omega arith) jle u v (semi.kept _ u v h))
    ];
  }

  pub lower_more : (r t s : Relations) (i : ℕ) → 0 < i → i < q.count → Lower q r t i → Semijoin q.atoms t s i (q.parent i) (q.shared i) → Lower q r s (suc i)
  lower_more r t s i pos le low semi =
      let bef : q.parent i < i = tree.before i pos le in
      let ple : q.parent i < q.count = omega arith in
      record {
        ups = record {
          within = λ j u v h. low.ups.within j u v (semi.kept j u v h);
          sound = satisfying_stays r t s i (q.parent i) (q.shared i) ple (has_shared i le) (tree.joined i pos le) semi low.ups.sound;
          upper = λ j jpos ij jle u v h.
              let o = low.ups.upper j jpos ij jle u v (semi.kept _ u v h) in (
                o.0,
                o.1,
                semi.stays j o.0 o.1 o.2 (λ e.
                    let F : ℕ → Type 0 = λ k. Occurs q.atoms t (q.parent k) (q.shared k) (at_variable q.atoms j (q.shared k) o.0 o.1) in
                    subst F e (u, v, semi.kept _ u v h, sym o.3)),
                o.3,
              );
        };
        lower = λ j jpos ji jle u v h. elim (cases_eq i j) [
          | inl e ↦ (let F : ℕ → Type 0 = λ k. (s k u v ≡ true → Occurs q.atoms s (q.parent k) (q.shared k) (at_variable q.atoms k (q.shared k) u v)) in
              subst F e (λ g. other_stays t s _ _ _ semi (q.parent i) _ _ (λ d. omega arith) (semi.support u v g))) h
          | inr d ↦ other_stays t s _ _ _ semi (q.parent j) _ _ (λ d'. omega (arith, tree.before j jpos jle)) (low.lower j jpos (omega arith) jle u v (semi.kept j u v h))
        ];
      }

-- an assignment changed at one variable
changed : (ℕ → ℕ) → ℕ → ℕ → ℕ → ℕ
changed f y w x = cond (eqb x y) w (f x)

changed_self : (f : ℕ → ℕ) (y w : ℕ) → changed f y w y ≡ w
unfolding changed
changed_self f y w = cond-true (eqb y y) w (f y) (eq-eqb y y refl)

changed_other : (f : ℕ → ℕ) (y w x : ℕ) → (x ≡ y → ⊥) → changed f y w x ≡ f x
unfolding changed
changed_other f y w x ne = cond-false (eqb x y) w (f x) (ne_eqb x y ne)

-- all atoms up to k have their pairs
Upto : Plan → Relations → ℕ → (ℕ → ℕ) → Type 0
Upto q t k f = (i : ℕ) → i ≤ k → t i (f (q.atoms.first i)) (f (q.atoms.second i)) ≡ true

module _ (q : Plan) (tree : Hangs q) where
  -- an assignment with atom k's pair changed on, where the two agree at the shared variable
  hang : (k u v : ℕ) (f : ℕ → ℕ) → k < q.count → at_variable q.atoms k (q.shared k) u v ≡ f (q.shared k)
      → (changed f (q.fresh k) (at_variable q.atoms k (q.fresh k) u v) (q.atoms.first k) ≡ u) × (changed f (q.fresh k) (at_variable q.atoms k (q.fresh k) u v) (q.atoms.second k) ≡ v)
  hang k u v f le agree =
      let y = q.fresh k in
      let w = at_variable q.atoms k (q.fresh k) u v in
      let at_shared : changed f y w (q.shared k) ≡ at_variable q.atoms k (q.shared k) u v = changed_other f y w (q.shared k) (tree.apart k le) ∙ sym agree in
      elim (tree.ends k le) [
        | inl e ↦ (
          ap (changed f y w) e.0 ∙ at_shared ∙ at_first q k (q.shared k) u v e.0,
          ap (changed f y w) e.1 ∙ changed_self f y w ∙ at_second q k y u v (λ d. tree.apart k le (sym e.0 ∙ d)),
        )
        | inr e ↦ (
          ap (changed f y w) e.0 ∙ changed_self f y w ∙ at_first q k y u v e.0,
          ap (changed f y w) e.1 ∙ at_shared ∙ at_second q k (q.shared k) u v (λ d. tree.apart k le (sym d ∙ e.0)),
        )
      ]

  -- earlier atoms do not see it
  hang_one : (k j w : ℕ) (f : ℕ → ℕ) → k < q.count → j < k → changed f (q.fresh k) w (q.atoms.first j) ≡ f (q.atoms.first j)
  hang_one k j w f le lt = changed_other f (q.fresh k) w (q.atoms.first j) (λ e. tree.new k j le lt (inl e))

  hang_two : (k j w : ℕ) (f : ℕ → ℕ) → k < q.count → j < k → changed f (q.fresh k) w (q.atoms.second j) ≡ f (q.atoms.second j)
  hang_two k j w f le lt = changed_other f (q.fresh k) w (q.atoms.second j) (λ e. tree.new k j le lt (inr e))

  hang_all : (t : Relations) (k u v : ℕ) (f : ℕ → ℕ) → suc k < q.count → Upto q t k f → t (suc k) u v ≡ true → at_variable q.atoms (suc k) (q.shared (suc k)) u v ≡ f (q.shared (suc k))
      → Upto q t (suc k) (changed f (q.fresh (suc k)) (at_variable q.atoms (suc k) (q.fresh (suc k)) u v))
  unfolding Upto
  hang_all t k u v f le full h agree i ile =
      let w = at_variable q.atoms (suc k) (q.fresh (suc k)) u v in
      let g = changed f (q.fresh (suc k)) w in
      let both = hang (suc k) u v f le agree in
      elim (cases_eq i (suc k)) [
        | inl e ↦ (let F : ℕ → Type 0 = λ j. t j (g (q.atoms.first j)) (g (q.atoms.second j)) ≡ true in
            subst F (sym e) (ap (λ a. t (suc k) a (g (q.atoms.second (suc k)))) both.0 ∙ ap (λ b. t (suc k) u b) both.1 ∙ h))
        | inr d ↦ (let lt : i < suc k = omega arith in
            ap (λ a. t i a (g (q.atoms.second i))) (hang_one (suc k) i w f le lt) ∙ ap (λ b. t i (f (q.atoms.first i)) b) (hang_two (suc k) i w f le lt) ∙ full i (omega arith))
      ]

  -- consistent both ways along each edge: any one pair is part of a assignment
  pub record Consistent (t : Relations) : Type 0 where
    pub upper : (j : ℕ) → 0 < j → j < q.count → (u v : ℕ) → t (q.parent j) u v ≡ true → Occurs q.atoms t j (q.shared j) (at_variable q.atoms (q.parent j) (q.shared j) u v)
    pub lower : (j : ℕ) → 0 < j → j < q.count → (u v : ℕ) → t j u v ≡ true → Occurs q.atoms t (q.parent j) (q.shared j) (at_variable q.atoms j (q.shared j) u v)

  extends : (t : Relations) → Consistent t → (k : ℕ) → k < q.count → (j u v : ℕ) → j ≤ k → t j u v ≡ true
      → (f : ℕ → ℕ) × Upto q t k f × (f (q.atoms.first j) ≡ u) × (f (q.atoms.second j) ≡ v)
  unfolding Upto
  extends t con zero le j u v jk h =
      let e : 0 ≡ j = omega arith in
      let F : ℕ → Type 0 = λ i. (t i u v ≡ true → (f : ℕ → ℕ) × Upto q t 0 f × (f (q.atoms.first i) ≡ u) × (f (q.atoms.second i) ≡ v)) in
      (subst F e (λ g.
      let c : ℕ → ℕ = λ _. at_variable q.atoms 0 (q.shared 0) u v in
      let f = changed c (q.fresh 0) (at_variable q.atoms 0 (q.fresh 0) u v) in
      let both = hang 0 u v c le refl in (
        f,
        (λ i ile. let G : ℕ → Type 0 = λ i. t i (f (q.atoms.first i)) (f (q.atoms.second i)) ≡ true in
            let z : 0 ≡ i = omega arith in
            subst G z (ap (λ a. t 0 a (f (q.atoms.second 0))) both.0 ∙ ap (λ b. t 0 u b) both.1 ∙ g)),
        both.0,
        both.1,
      ))) h
  extends t con (suc k) le j u v jk h =
      let pos : 0 < suc k = omega arith in
      let bef : q.parent (suc k) < suc k = tree.before (suc k) pos le in
      elim (cases_eq (suc k) j) [
        | inl e ↦ (let F : ℕ → Type 0 = λ i. (t i u v ≡ true → (f : ℕ → ℕ) × Upto q t (suc k) f × (f (q.atoms.first i) ≡ u) × (f (q.atoms.second i) ≡ v)) in
            subst F e (λ g.
            let o = con.lower (suc k) pos le u v g in
            let r = extends t con k (omega arith) (q.parent (suc k)) o.0 o.1 (omega arith) o.2 in
            let f = r.0 in
            let agree : at_variable q.atoms (suc k) (q.shared (suc k)) u v ≡ f (q.shared (suc k)) =
            sym o.3 ∙ ap (λ a. at_variable q.atoms (q.parent (suc k)) (q.shared (suc k)) a o.1) (sym r.2)
            ∙ ap (λ b. at_variable q.atoms (q.parent (suc k)) (q.shared (suc k)) (f (q.atoms.first (q.parent (suc k)))) b) (sym r.3)
            ∙ at_assigned q (q.parent (suc k)) (q.shared (suc k)) f (tree.joined (suc k) pos le) in
            let both = hang (suc k) u v f le agree in
            (changed f (q.fresh (suc k)) (at_variable q.atoms (suc k) (q.fresh (suc k)) u v), hang_all t k u v f le r.1 g agree, both.0, both.1))) h
        | inr d ↦
            (let lt : j < suc k = omega arith in
            let r = extends t con k (omega arith) j u v (omega arith) h in
            let f = r.0 in
            let o = con.upper (suc k) pos le (f (q.atoms.first (q.parent (suc k)))) (f (q.atoms.second (q.parent (suc k)))) (r.1 (q.parent (suc k)) (omega arith)) in
            let agree : at_variable q.atoms (suc k) (q.shared (suc k)) o.0 o.1 ≡ f (q.shared (suc k)) =
            o.3 ∙ at_assigned q (q.parent (suc k)) (q.shared (suc k)) f (tree.joined (suc k) pos le) in
            let w = at_variable q.atoms (suc k) (q.fresh (suc k)) o.0 o.1 in (
              changed f (q.fresh (suc k)) w,
              hang_all t k o.0 o.1 f le r.1 o.2 agree,
              hang_one (suc k) j w f le lt ∙ r.2,
              hang_two (suc k) j w f le lt ∙ r.3,
            ))
      ]

  -- where both passes are done, the tables are exact
  pub lower_all : (r t : Relations) → Lower q r t q.count → Exact q.atoms q.count r t
  unfolding Upto
  lower_all r t low i u v ile =
      let con : Consistent t = record { upper = λ j jpos jle u v h. low.ups.upper j jpos (omega arith) jle u v h; lower = λ j jpos jle u v h. low.lower j jpos jle jle u v h } in (
        (λ h. let x = extends t con (pred q.count) (omega arith) i u v (omega arith) h in
            (x.0, (λ j jle. low.ups.within j _ _ (x.1 j (omega arith))), x.2, x.3)),
        (λ x. ap (λ a. t i a v) (sym x.2) ∙ ap (λ b. t i (x.0 (q.atoms.first i)) b) (sym x.3) ∙ low.ups.sound x.0 x.1 i ile),
      )
