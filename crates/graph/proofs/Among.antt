-- The edges in the first places of a list, after a write to it.
use Rattle.std.proofs.Common.{◌≡◌, ℕ, zero, suc, ◌+◌, ◌-◌, ◌<◌, ◌≤◌, Bool, true, false, cond, not, ◌&&◌, ◌||◌, ◌≢◌, List, length, get_or, set, take, Decides, Option, Some, None, sym, refl, ap, ◌∙◌, subst, ⊎_elim, add-one, arith}
use Rattle.std.proofs.lemmas.Bool.{cases_eq, cases_lt, cases_Bool, both_ways}
use Rattle.std.proofs.lemmas.List.{get_or-set_same, get_or-set_other}
use Rattle.std.proofs.lemmas.Bool.Decides.{same_from_decides, Decides-like, Decides-not, Decides-and, Decides-below_or}
use Rattle.std.proofs.lemmas.Grind.{common_steps}
use Rattle.std.specs.List.{AllWithin, HoldsAt}
use Rattle.std.specs.Option.{MatchOption}
use Rattle.graph.specs.declared.edges.Edge.{Edge}
use Rattle.graph.specs.Edges.{edge, blank, is, among, holds}
use Rattle.graph.proofs.Same.{decides_is}
use Rattle.graph.proofs.OneEdge.{Changed}

abbrev pub Stands : List Edge → ℕ → Edge → Type 0
Stands xs n e = (k : ℕ) × (k < n) × (get_or xs k blank ≡ e)

pub decides_among : (xs : List Edge) (n : ℕ) (e : Edge) → Decides (holds (among xs n) e) (Stands xs n e)
decides_among xs n e =
    Decides-below_or (λ k. is (get_or xs k blank) e.from e.label e.to) (λ k. get_or xs k blank ≡ e)
    (λ k. holds (among xs k) e) (λ k. decides_is (get_or xs k blank) e.from e.label e.to) refl (λ _. refl) n

-- no edge stands twice in the first n places
abbrev pub Distinct : List Edge → ℕ → Type 0
Distinct xs n = (i : ℕ) → i < n → holds (among xs i) (get_or xs i blank) ≡ false

pub apart_from_distinct : (xs : List Edge) (n : ℕ) → Distinct xs n
    → (i j : ℕ) → i < n → j < n → (i ≡ j → ⊥) → get_or xs i blank ≡ get_or xs j blank → ⊥
apart_from_distinct xs n d i j l k ne e =
    ⊎_elim
    (λ (q : i < j). both_ways _ (d j k) ((decides_among xs j (get_or xs j blank)).1 (i, q, e)))
    (λ (q : j ≤ i). both_ways _ (d i l) ((decides_among xs i (get_or xs i blank)).1 (j, omega arith, sym e)))
    (cases_lt i j)

pub distinct_from_apart : (xs : List Edge) (n : ℕ)
    → ((i j : ℕ) → j < n → i < j → get_or xs i blank ≡ get_or xs j blank → ⊥) → Distinct xs n
distinct_from_apart xs n h j l =
    ⊎_elim
    (λ (t : holds (among xs j) (get_or xs j blank) ≡ true).
    let s = (decides_among xs j (get_or xs j blank)).0 t in absurd (h s.0 j l s.1 s.2))
    (λ f. f)
    (cases_Bool (holds (among xs j) (get_or xs j blank)))

-- a write past the first n places
pub among_below : (xs : List Edge) (k : ℕ) (y : Edge) (n u a v : ℕ) → n ≤ k → among (set xs k y) n u a v ≡ among xs n u a v
among_below xs k y zero u a v l = refl
among_below xs k y (suc n) u a v l =
    let ne : n ≢ k = omega arith in
    let here : get_or (set xs k y) n blank ≡ get_or xs n blank = get_or-set_other xs k n y blank ne in
    let rest : among (set xs k y) n u a v ≡ among xs n u a v = among_below xs k y n u a v (omega arith) in
    cc

or_cond : (x y : Bool) → (x || y) ≡ cond x true y
or_cond true y = refl
or_cond false y = refl

module _ (xs : List Edge) (n : ℕ) (y : Edge) (room : n < length xs) where
  pub among_append : Changed y true (among xs n) (among (set xs n y) (n + 1))
  among_append u a v =
      let here : get_or (set xs n y) n blank ≡ y = get_or-set_same xs n y blank room in
      let rest : among (set xs n y) n u a v ≡ among xs n u a v = among_below xs n y n u a v (omega arith) in
      let step : among (set xs n y) (suc n) u a v ≡ (is y u a v || among xs n u a v) = cc in
      let goal : among (set xs n y) (n + 1) u a v ≡ (is y u a v || among xs n u a v) = rw add-one step in
      goal ∙ or_cond (is y u a v) (among xs n u a v)

  pub distinct_append : Distinct xs n → holds (among xs n) y ≡ false → Distinct (set xs n y) (n + 1)
  distinct_append d new i k =
      ⊎_elim
      (λ (e : i ≡ n).
      let at : get_or (set xs n y) n blank ≡ y = get_or-set_same xs n y blank room in
      let front : holds (among (set xs n y) n) y ≡ false = among_below xs n y n y.from y.label y.to (omega arith) ∙ new in
      let here : holds (among (set xs n y) n) (get_or (set xs n y) n blank) ≡ false
      = subst (λ (z : Edge). holds (among (set xs n y) n) z ≡ false) (sym at) front in
      subst (λ (j : ℕ). holds (among (set xs n y) j) (get_or (set xs n y) j blank) ≡ false) (sym e) here)
      (λ (ne : i ≡ n → ⊥).
      let x : Edge = get_or xs i blank in
      let at : get_or (set xs n y) i blank ≡ x = get_or-set_other xs n i y blank ne in
      let front : holds (among (set xs n y) i) x ≡ false
      = among_below xs n y i x.from x.label x.to (omega arith) ∙ d i (omega arith) in
      subst (λ (z : Edge). holds (among (set xs n y) i) z ≡ false) (sym at) front)
      (cases_eq i n)

-- the last edge moved into place i
module _ (xs : List Edge) (n i : ℕ) (within : n ≤ length xs) (l : i < n) (d : Distinct xs n) where
  abbrev ys : List Edge
  ys = set xs i (get_or xs (n - 1) blank)

  apart_xs : (j k : ℕ) → j < n → k < n → (j ≡ k → ⊥) → get_or xs j blank ≡ get_or xs k blank → ⊥
  apart_xs = apart_from_distinct xs n d

  at_i : get_or ys i blank ≡ get_or xs (n - 1) blank
  at_i = get_or-set_same xs i (get_or xs (n - 1) blank) blank (omega arith)

  at_j : (j : ℕ) → (j ≡ i → ⊥) → get_or ys j blank ≡ get_or xs j blank
  at_j j ne = get_or-set_other xs i j (get_or xs (n - 1) blank) blank ne

  pub distinct_remove : Distinct ys (n - 1)
  distinct_remove =
      distinct_from_apart ys (n - 1)
      (λ a b lb la e.
      ⊎_elim
      (λ (p : a ≡ i). apart_xs (n - 1) b (omega arith) (omega arith) (omega arith)
      (sym at_i ∙ ap (λ k. get_or ys k blank) (sym p) ∙ e ∙ at_j b (omega arith)))
      (λ (p : a ≡ i → ⊥).
      ⊎_elim
      (λ (q : b ≡ i). apart_xs a (n - 1) (omega arith) (omega arith) (omega arith)
      (sym (at_j a p) ∙ e ∙ ap (λ k. get_or ys k blank) q ∙ at_i))
      (λ (q : b ≡ i → ⊥). apart_xs a b (omega arith) (omega arith) (omega arith) (sym (at_j a p) ∙ e ∙ at_j b q))
      (cases_eq b i))
      (cases_eq a i))

  stays : (e x : Edge) → get_or xs i blank ≡ e → (e ≡ x → ⊥) × Stands xs n x → Stands ys (n - 1) x
  stays e x at p =
      let s = p.1 in let lt = s.1 in
      ⊎_elim
      (λ (q : s.0 ≡ n - 1).
      let ni : i ≡ n - 1 → ⊥ = λ o. p.0 (sym at ∙ ap (λ k. get_or xs k blank) (o ∙ sym q) ∙ s.2) in
      (i, omega arith, at_i ∙ ap (λ k. get_or xs k blank) (sym q) ∙ s.2))
      (λ (q : s.0 ≡ n - 1 → ⊥).
      (s.0, omega arith, at_j s.0 (λ o. p.0 (sym at ∙ ap (λ k. get_or xs k blank) (sym o) ∙ s.2)) ∙ s.2))
      (cases_eq s.0 (n - 1))

  stood : (e x : Edge) → get_or xs i blank ≡ e → Stands ys (n - 1) x → (e ≡ x → ⊥) × Stands xs n x
  stood e x at s =
      let lt = s.1 in
      ⊎_elim
      (λ (q : s.0 ≡ i).
      let here : get_or xs (n - 1) blank ≡ x = sym at_i ∙ ap (λ k. get_or ys k blank) (sym q) ∙ s.2 in
      (λ o. apart_xs i (n - 1) l (omega arith) (omega arith) (at ∙ o ∙ sym here), (n - 1, omega arith, here)))
      (λ (q : s.0 ≡ i → ⊥).
      let here : get_or xs s.0 blank ≡ x = sym (at_j s.0 q) ∙ s.2 in
      (λ o. apart_xs i s.0 l (omega arith) (λ z. q (sym z)) (at ∙ o ∙ sym here), (s.0, omega arith, here)))
      (cases_eq s.0 i)

  not_cond : (x y : Bool) → (not x && y) ≡ cond x false y
  not_cond true y = refl
  not_cond false y = refl

  pub among_remove : (e : Edge) → get_or xs i blank ≡ e → Changed e false (among xs n) (among ys (n - 1))
  among_remove e at u a v =
      same_from_decides _ _ (decides_among ys (n - 1) (edge u a v))
      (Decides-like _ (stays e (edge u a v) at) (stood e (edge u a v) at)
      (Decides-and _ _ (Decides-not _ (decides_is e u a v)) (decides_among xs n (edge u a v))))
      ∙ not_cond (is e u a v) (among xs n u a v)

-- e stands at place i
pub among_at : (xs : List Edge) (n i : ℕ) (e : Edge) → i < n → get_or xs i blank ≡ e → holds (among xs n) e ≡ true
among_at xs n i e l p = (decides_among xs n e).1 (i, l, p)

-- reads of the first n places
pub length_taken : (xs : List Edge) (n : ℕ) → n ≤ length xs → length (take n xs) ≡ n
length_taken xs n l = grind (arith, common_steps)

pub taken_below : (xs : List Edge) (n k : ℕ) → n ≤ length xs → k < n → k < length (take n xs)
taken_below xs n k l h = grind (arith, common_steps)

pub below_taken : (xs : List Edge) (n k : ℕ) → n ≤ length xs → k < length (take n xs) → k < n
below_taken xs n k l h = grind (arith, common_steps)

pub taken_is : (xs : List Edge) (n k : ℕ) → n ≤ length xs → k < n → get_or (take n xs) k blank ≡ get_or xs k blank
taken_is xs n k l h = grind (arith, common_steps)

-- the first of the first n places that holds the edge, from what `position` says
pub placed_from_first : (xs : List Edge) (n : ℕ) (e : Edge) (r : Option ℕ) → n ≤ length xs
    → MatchOption r (AllWithin (λ x. x ≡ e → ⊥) (take n xs) 0 (length (take n xs))) (λ i. (i < length (take n xs)) × HoldsAt (λ x. x ≡ e) (take n xs) i × AllWithin (λ x. x ≡ e → ⊥) (take n xs) 0 i)
    → elim r as (λ x. Type 0) [ None ↦ holds (among xs n) e ≡ false | Some i ↦ (i < n) × (get_or xs i blank ≡ e) ]
placed_from_first xs n e None l h =
    ⊎_elim
    (λ (t : holds (among xs n) e ≡ true).
    let s = (decides_among xs n e).0 t in
    absurd (h s.0 blank (omega arith) (taken_below xs n s.0 l s.1) (taken_is xs n s.0 l s.1 ∙ s.2)))
    (λ f. f)
    (cases_Bool (holds (among xs n) e))
placed_from_first xs n e (Some i) l h = let low = below_taken xs n i l h.0 in (low, sym (taken_is xs n i l low) ∙ h.1 blank)
