-- Laws of chains; an atom makes a cycle with those before it just if they connect its variables.
use Rattle.std.proofs.Common.{◌≡◌, ℕ, suc, ◌<◌, ◌⊎◌, List, [], ◌∷◌, sym, refl, ◌∙◌, subst, inl, inr, arith}
use Rattle.std.proofs.lemmas.Bool.{cases_eq}
use Rattle.meaning.specs.Shapes.{Atoms, Joins, Step, Chain, Connected, Among, Different, atoms_of, variables_of, Cycle, Before}

-- a one_step chain, from equations
joins_turn : (q : Atoms) (i x y : ℕ) → Joins q i x y → Joins q i y x
joins_turn q i x y j = elim j [ inl e ↦ inr e | inr e ↦ inl e ]

cases_among : (x : ℕ) (ys : List ℕ) → Among x ys ⊎ (Among x ys → ⊥)
cases_among x [] = inr (λ e. e)
cases_among x (y ∷ ys) = elim (cases_eq x y) [
  | inl e ↦ inl (inl e)
  | inr d ↦ elim (cases_among x ys) [
    | inl a ↦ inl (inr a)
    | inr n ↦ inr (λ h. elim h [ inl e ↦ d e | inr a ↦ n a ])
  ]
]

module _ (q : Atoms) (S : ℕ → Type 0) where
  chain_from : (x y z : ℕ) (ss : List Step) → x ≡ y → Chain q S y ss z → Chain q S x ss z
  chain_from x y z ss e c = let F : ℕ → Type 0 = λ w. Chain q S w ss z in subst F (sym e) c

  pub connected_same : (x : ℕ) → Connected q S x x
  connected_same x = ([], refl)

  pub connected_step : (i x y z : ℕ) → S i → Joins q i x y → Connected q S y z → Connected q S x z
  connected_step i x y z s j c = (record { by = i; to = y } ∷ c.0, (s, j, c.1))

  append : (x y z : ℕ) (ss : List Step) → Chain q S x ss y → Connected q S y z → Connected q S x z
  append x y z [] e d = (d.0, chain_from x y z d.0 e d.1)
  append x y z (s ∷ ss) c d = connected_step s.by x s.to z c.0 c.1 (append s.to y z ss c.2 d)

  pub connected_trans : (x y z : ℕ) → Connected q S x y → Connected q S y z → Connected q S x z
  connected_trans x y z c d = append x y z c.0 c.1 d

  back : (x y z : ℕ) (ss : List Step) → Chain q S x ss y → Connected q S x z → Connected q S y z
  back x y z [] e d = (d.0, chain_from y x z d.0 (sym e) d.1)
  back x y z (s ∷ ss) c d = back s.to y z ss c.2 (connected_step s.by s.to x z c.0 (joins_turn q s.by x s.to c.1) d)

  pub connected_turn : (x y : ℕ) → Connected q S x y → Connected q S y x
  connected_turn x y c = back x y x c.0 c.1 (connected_same x)

  -- a chain that meets no variable twice
  Simple : ℕ → ℕ → Type 0
  Simple x y = (ss : List Step) × Chain q S x ss y × Different (x ∷ variables_of ss)

  simple_from : (x y z : ℕ) → x ≡ y → Simple y z → Simple x z
  simple_from x y z e c = let F : ℕ → Type 0 = λ w. Simple w z in subst F (sym e) c

  -- the part of a chain from a variable on it
  rest_from : (x y z : ℕ) (ss : List Step) → Chain q S y ss z → Different (y ∷ variables_of ss) → Among x (y ∷ variables_of ss) → Simple x z
  unfolding Simple
  rest_from x y z [] c d a = elim a [ inl e ↦ simple_from x y z e ([], c, d) | inr w ↦ absurd w ]
  rest_from x y z (s ∷ ss) c d a = elim a [
    | inl e ↦ simple_from x y z e (s ∷ ss, c, d)
    | inr b ↦ rest_from x s.to z ss c.2 d.1 b
  ]

  shorten : (x z : ℕ) (ss : List Step) → Chain q S x ss z → Simple x z
  unfolding Simple
  shorten x z [] e = ([], e, ((λ a. a), tt))
  shorten x z (s ∷ ss) c =
      let r = shorten s.to z ss c.2 in
      elim (cases_among x (s.to ∷ variables_of r.0)) [
        | inl a ↦ rest_from x s.to z r.0 r.1 r.2 a
        | inr n ↦ (s ∷ r.0, (c.0, c.1, r.1), (n, r.2))
      ]

  -- an atom of the rest leads to a later variable, so it is no atom of a step before
  atom_later : (i x y z w : ℕ) (ss : List Step) → Joins q i x y → Chain q S w ss z → Among i (atoms_of ss) → Among x (variables_of ss) ⊎ Among y (variables_of ss)
  atom_later i x y z w [] j c a = absurd a
  atom_later i x y z w (s ∷ ss) j c a = elim a [
    | inl e ↦ (let k : Joins q i w s.to = (let F : ℕ → Type 0 = λ b. Joins q b w s.to in subst F (sym e) c.1) in
        elim j [
          | inl f ↦ elim k [ inl g ↦ inr (inl (sym f.1 ∙ g.1)) | inr g ↦ inl (inl (sym f.0 ∙ g.0)) ]
          | inr f ↦ elim k [ inl g ↦ inl (inl (sym f.1 ∙ g.1)) | inr g ↦ inr (inl (sym f.0 ∙ g.0)) ]
        ])
    | inr b ↦ elim (atom_later i x y z s.to ss j c.2 b) [ inl h ↦ inl (inr h) | inr h ↦ inr (inr h) ]
  ]

  simple_atoms : (x z : ℕ) (ss : List Step) → Chain q S x ss z → Different (x ∷ variables_of ss) → Different (atoms_of ss)
  simple_atoms x z [] c d = tt
  simple_atoms x z (s ∷ ss) c d = (
    (λ a. elim (atom_later s.by x s.to z s.to ss c.1 c.2 a) [ inl h ↦ d.0 (inr h) | inr h ↦ d.1.0 h ]),
    simple_atoms s.to z ss c.2 d.1,
  )

  atoms_in : (x z : ℕ) (ss : List Step) → Chain q S x ss z → (i : ℕ) → Among i (atoms_of ss) → S i
  atoms_in x z [] c i a = absurd a
  atoms_in x z (s ∷ ss) c i a = elim a [
    | inl e ↦ subst S (sym e) c.0
    | inr b ↦ atoms_in s.to z ss c.2 i b
  ]

-- chains and cycles by some atoms are such by more
module _ (q : Atoms) (S R : ℕ → Type 0) (in' : (i : ℕ) → S i → R i) where
  pub chain_more : (x y : ℕ) (ss : List Step) → Chain q S x ss y → Chain q R x ss y
  chain_more x y [] c = c
  chain_more x y (s ∷ ss) c = (in' s.by c.0, c.1, chain_more s.to y ss c.2)

  pub connected_more : (x y : ℕ) → Connected q S x y → Connected q R x y
  connected_more x y c = (c.0, chain_more x y c.0 c.1)

  pub cycle_more : Cycle q S → Cycle q R
  cycle_more c = record { start = c.start; steps = c.steps; some = c.some; joins = chain_more c.start c.start c.steps c.joins; atoms = c.atoms; variables = c.variables }

-- an atom of R whose variables others, of S, connect makes a cycle
pub cycle_closes : (q : Atoms) (S R : ℕ → Type 0) (i : ℕ) → ((j : ℕ) → S j → R j) → R i → (S i → ⊥) → Connected q S (q.first i) (q.second i) → Cycle q R
unfolding Simple
cycle_closes q S R i in' has out c =
    let r = shorten q S (q.first i) (q.second i) c.0 c.1 in
    let k : Joins q i (q.second i) (q.first i) = inr (refl, refl) in
    record {
      start = q.second i;
      steps = record { by = i; to = q.first i } ∷ r.0;
      some = omega arith;
      joins = (has, k, chain_more q S R in' (q.first i) (q.second i) r.0 r.1);
      atoms = ((λ a. out (atoms_in q S (q.first i) (q.second i) r.0 r.1 i a)), simple_atoms q S (q.first i) (q.second i) r.0 r.1 r.2);
      variables = r.2;
    }

-- a chain by the atoms before suc k, of different atoms: k is none of them, or stands once
module _ (q : Atoms) (k : ℕ) where
  without : (x y : ℕ) (ss : List Step) → Chain q (Before (suc k)) x ss y → (Among k (atoms_of ss) → ⊥) → Chain q (Before k) x ss y
  without x y [] c n = c
  without x y (s ∷ ss) c n =
      let ne : s.by ≡ k → ⊥ = λ e. n (inl (sym e)) in
      let lt : s.by < suc k = c.0 in
      (omega arith, c.1, without s.to y ss c.2 (λ a. n (inr a)))

  -- the two parts of a chain before and behind a step by atom k
  pub record Parted (x y : ℕ) : Type 0 where
    pub from : ℕ
    pub to : ℕ
    pub front : Connected q (Before k) x from
    pub step : Joins q k from to
    pub rear : Connected q (Before k) to y

  part : (x y : ℕ) (ss : List Step) → Chain q (Before (suc k)) x ss y → Different (atoms_of ss) → Among k (atoms_of ss) → Parted x y
  part x y [] c d a = absurd a
  part x y (s ∷ ss) c d a = elim (cases_eq s.by k) [
    | inl e ↦ (let F : ℕ → Type 0 = λ b. (Joins q b x s.to) × (Among b (atoms_of ss) → ⊥) in
        let h = subst F e (c.1, d.0) in
        record { from = x; to = s.to; front = connected_same q (Before k) x; step = h.0; rear = (ss, without s.to y ss c.2 h.1) })
    | inr ne ↦ elim a [
      | inl e ↦ absurd (ne (sym e))
      | inr b ↦ (let p = part s.to y ss c.2 d.1 b in
          let lt : s.by < suc k = c.0 in
          record { from = p.from; to = p.to; front = connected_step q (Before k) s.by x s.to p.from (omega arith) c.1 p.front; step = p.step; rear = p.rear })
    ]
  ]

  -- where there was no cycle before, a cycle goes through atom k, and the rest of it connects the atom's variables
  pub cycle_opens : (Cycle q (Before k) → ⊥) → Cycle q (Before (suc k)) → Connected q (Before k) (q.first k) (q.second k)
  cycle_opens none c = elim (cases_among k (atoms_of c.steps)) [
    | inl a ↦ (let p = part c.start c.start c.steps c.joins c.atoms a in
        let r = connected_trans q (Before k) p.to c.start p.from p.rear p.front in
        elim p.step [
          | inl e ↦ (let F : ℕ → ℕ → Type 0 = λ u v. Connected q (Before k) u v in
              let G : ℕ → Type 0 = λ u. F u (q.second k) in
              let H : ℕ → Type 0 = λ v. F p.from v in
              subst G (sym e.0) (subst H (sym e.1) (connected_turn q (Before k) p.to p.from r)))
          | inr e ↦ (let F : ℕ → ℕ → Type 0 = λ u v. Connected q (Before k) u v in
              let G : ℕ → Type 0 = λ u. F u (q.second k) in
              let H : ℕ → Type 0 = λ v. F p.to v in
              subst G (sym e.0) (subst H (sym e.1) r))
        ])
    | inr n ↦ absurd (none (record { start = c.start; steps = c.steps; some = c.some; joins = without c.start c.start c.steps c.joins n; atoms = c.atoms; variables = c.variables }))
  ]
