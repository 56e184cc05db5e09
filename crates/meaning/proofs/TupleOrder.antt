-- The order of tuples: transitive, and any two compare.
use Rattle.std.proofs.Common.{◌≡◌, ℕ, zero, suc, ◌<◌, ◌⊎◌, List, sym, ◌∙◌, subst, inl, inr, arith}
use Rattle.std.proofs.lemmas.Bool.{cases_eq, cases_lt}
use Rattle.meaning.specs.Tuples.{node, Lower}
use Rattle.meaning.specs.Listings.{Same}

pub lower_trans : (h : ℕ) (xs ys zs : List ℕ) → Lower h xs ys → Lower h ys zs → Lower h xs zs
lower_trans h xs ys zs a b = elim (cases_lt a.place b.place) [
  | inl l ↦ record { place = a.place; below = a.below; same = λ i il. a.same i il ∙ b.same i (omega arith); less = omega (arith, a.less, b.same a.place l) }
  | inr g ↦ elim (cases_eq a.place b.place) [
    | inl e ↦ record {
      place = b.place;
      below = b.below;
      same = λ i il. a.same i (omega arith) ∙ b.same i il;
      less = (let F : ℕ → Type 0 = λ j. node xs j < node ys j in omega (arith, subst F e a.less, b.less));
    }
    | inr d ↦ (let l : b.place < a.place = omega arith in
        record { place = b.place; below = b.below; same = λ i il. a.same i (omega arith) ∙ b.same i il; less = omega (arith, a.same b.place l, b.less) })
  ]
]

pub lower_not_same : (h : ℕ) (xs ys : List ℕ) → Lower h xs ys → Same h xs ys → ⊥
lower_not_same h xs ys a s = omega (arith, a.less, s a.place a.below)

pub compare : (h : ℕ) (xs ys : List ℕ) → Same h xs ys ⊎ (Lower h xs ys ⊎ Lower h ys xs)
compare zero xs ys = inl (λ i il. absurd (omega arith))
compare (suc h) xs ys = elim (compare h xs ys) [
  | inl s ↦ elim (cases_eq (node xs h) (node ys h)) [
    | inl e ↦ inl (λ i il. elim (cases_eq i h) [
      | inl z ↦ (let F : ℕ → Type 0 = λ j. node xs j ≡ node ys j in subst F (sym z) e)
      | inr z ↦ s i (omega arith)
    ])
    | inr d ↦ elim (cases_lt (node xs h) (node ys h)) [
      | inl l ↦ inr (inl (record { place = h; below = omega arith; same = s; less = l }))
      | inr g ↦ inr (inr (record { place = h; below = omega arith; same = λ i il. sym (s i il); less = omega arith }))
    ]
  ]
  | inr w ↦ inr (elim w [
    | inl a ↦ inl (record { place = a.place; below = omega (arith, a.below); same = a.same; less = a.less })
    | inr a ↦ inr (record { place = a.place; below = omega (arith, a.below); same = a.same; less = a.less })
  ])
]
