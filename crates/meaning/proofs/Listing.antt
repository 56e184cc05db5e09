-- Where the fitting tuples are the answers, the outcomes of next list the answers whole.
use Rattle.std.proofs.Common.{◌≡◌, ℕ, List, [], ◌∷◌, ◌++◌, refl, subst, inl, inr, arith}
use Rattle.meaning.specs.Listings.{Outcome, gave, ended, given, AboveNewest, Gives, Nexts, Among, Higher, Rising, Listed, NextRight, Whole}
use Rattle.meaning.proofs.TupleOrder.{lower_trans, lower_not_same, compare}

-- above the newest of a rising list is above all of it
higher_all : (h : ℕ) (ys : List ℕ) (g : List (List ℕ)) → Rising h g → AboveNewest h g ys → Higher h ys g
higher_all h ys [] r a = tt
higher_all h ys (x ∷ g) r a = (a, lifted g r.0)
  where
    lifted : (k : List (List ℕ)) → Higher h x k → Higher h ys k
    lifted [] u = tt
    lifted (z ∷ k) u = (lower_trans h z x ys u.0 a, lifted k u.1)

newest_of : (h : ℕ) (ys : List ℕ) (g : List (List ℕ)) → Higher h ys g → AboveNewest h g ys
newest_of h ys [] u = tt
newest_of h ys (x ∷ g) u = u.0

not_among : (h : ℕ) (ys : List ℕ) (g : List (List ℕ)) → Higher h ys g → Among h ys g → ⊥
not_among h ys [] u a = a
not_among h ys (x ∷ g) u a = elim a [ inl s ↦ lower_not_same h x ys u.0 s | inr b ↦ not_among h ys g u.1 b ]

module _ (A F : List ℕ → Type 0) (h : ℕ) (sound : (xs : List ℕ) → F xs → A xs) (complete : (xs : List ℕ) → A xs → F xs) where
  pub right_from : (g : List (List ℕ)) (o : Outcome) → Listed A h g → Gives F h g o → NextRight A h g o
  right_from g (gave xs) l s = (
    sound xs s.0,
    higher_all h xs g l.rising s.1,
    λ ys a new w. elim (l.others ys a) [
      | inl m ↦ new m
      | inr u ↦ s.2 ys (complete ys a) (newest_of h ys g u) w
    ],
  )
  right_from g ended l s = λ ys a. elim (l.others ys a) [
    | inl m ↦ m
    | inr u ↦ absurd (s ys (complete ys a) (newest_of h ys g u))
  ]

  pub listed_more : (g : List (List ℕ)) (xs : List ℕ) → Listed A h g → Gives F h g (gave xs) → Listed A h (xs ∷ g)
  listed_more g xs l s =
      let up = higher_all h xs g l.rising s.1 in
      record {
        answers = (sound xs s.0, l.answers);
        rising = (up, l.rising);
        others = λ ys a. elim (l.others ys a) [
          | inl m ↦ inl (inr m)
          | inr u ↦ elim (compare h xs ys) [
            | inl e ↦ inl (inl e)
            | inr w ↦ elim w [
              | inl lo ↦ inr (lo, u)
              | inr hi ↦ absurd (s.2 ys (complete ys a) (newest_of h ys g u) hi)
            ]
          ]
        ];
      }

  pub listed_all : (os : List Outcome) → Nexts F h os → Listed A h (given os)
  listed_all [] s = record { answers = tt; rising = tt; others = λ ys a. inr tt }
  listed_all (gave xs ∷ os) s = listed_more (given os) xs (listed_all os s.1) s.0
  listed_all (ended ∷ os) s = listed_all os s.1

  ends_from : (g : List (List ℕ)) (o : Outcome) → NextRight A h g o
      → (o ≡ ended → (ys : List ℕ) → A ys → Among h ys g) × (((ys : List ℕ) → A ys → Among h ys g) → o ≡ ended)
  ends_from g (gave xs) r = ((λ e. let z : ◌≡◌ {A = ℕ} 0 1 = cc in absurd (omega arith)), (λ all. absurd (not_among h xs g r.1 (all xs r.0))))
  ends_from g ended r = ((λ e. r), (λ all. refl))

  nexts_earlier : (later earlier : List Outcome) → Nexts F h (later ++ earlier) → Nexts F h earlier
  nexts_earlier [] earlier s = s
  nexts_earlier (o ∷ later) earlier s = nexts_earlier later earlier s.1

  pub whole_from : (os : List Outcome) → Nexts F h os → Whole A h os
  whole_from os s =
      let N : List Outcome → Type 0 = λ z. Nexts F h z in
      let right : (later earlier : List Outcome) (o : Outcome) → os ≡ later ++ (o ∷ earlier) → NextRight A h (given earlier) o =
      λ later earlier o e. (let k = nexts_earlier later (o ∷ earlier) (subst N e s) in right_from (given earlier) o (listed_all earlier k.1) k.0) in
      record {
        moments = λ later earlier e. listed_all earlier (nexts_earlier later earlier (subst N e s));
        outcomes = right;
        once = λ later earlier xs e m. not_among h xs (given earlier) (right later earlier (gave xs) e).1 m;
        ends = λ later earlier o e. ends_from (given earlier) o (right later earlier o e);
      }
