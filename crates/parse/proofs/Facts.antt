-- What follows from a query that some text is parsed to, where only this is known: that it cannot be that none is.
use Rattle.std.proofs.Common.{◌≡◌, ℕ, zero, suc, ◌-◌, ◌<◌, ◌≤◌, List, [], ◌∷◌, length, get_or, take, sym, ◌∙◌, subst, inl, inr, arith, length-append}
use Rattle.std.proofs.lemmas.List.{get_or_append_left, get_or_push}
use Rattle.std.proofs.lemmas.Bool.{cases_lt}
use Rattle.meaning.proofs.Pigeonhole.{pigeonhole}
use Rattle.shapes.specs.declared.checks.Ends.{Ends}
use Rattle.shapes.specs.Checks.{of, Absent}
use Rattle.shapes.specs.Verdicts.{Distinct}
use Rattle.order.specs.Orders.{Ordered}
use Rattle.order.specs.Ranks.{ranks}
use Rattle.order.proofs.Stable.{stable_eq, stable_lt, stable_le, stable_ordered}
use Rattle.query.specs.Queries.{HeadTree, one_name, more_names, names}
use Rattle.parse.specs.declared.Parsed.{Parsed}
use Rattle.parse.specs.Parsing.{Accepted}
use Rattle.parse.specs.Shaping.{ends, no_atom, pair}
use Rattle.parse.proofs.Shaped.{ends_are, ends_long, first_name, names_some, number_some}

-- the variables of a head are capital letters
capital : (h : HeadTree) (i : ℕ) → i < length (names h) → (65 ≤ get_or (names h) i 0) × (get_or (names h) i 0 ≤ 90)
capital (one_name b c) zero l = c
capital (one_name b c) (suc i) l = absurd (omega arith)
capital (more_names t b c) i l = elim (cases_lt i (length (names t))) [
  | inl m ↦ (let F : ℕ → Type 0 = λ y. (65 ≤ y) × (y ≤ 90) in subst F (sym (get_or_append_left (names t) (b ∷ []) 0 i m)) (capital t i m))
  | inr g ↦ (let F : ℕ → Type 0 = λ y. (65 ≤ y) × (y ≤ 90) in let e : length (names t) ≡ i = omega (arith, length-append (names t) (b ∷ [])) in subst F (sym (get_or_push (names t) b 0 i e)) c)
]

-- different capital letters are 26 at most
names_few : (h : HeadTree) → Distinct (names h) → length (names h) ≤ 26
names_few h distinct =
    pigeonhole 26 (length (names h)) (λ i. get_or (names h) i 0 - 65)
    (λ i l. let c = capital h i l in let a = c.0 in let b = c.1 in omega arith)
    (λ i j ij jl e. let c = capital h i (omega arith) in let d = capital h j jl in let a = c.0 in let b = d.0 in distinct j jl (i, ij, omega arith))

module _ (p : Parsed) (held : ((xs : List ℕ) → length xs ≤ 512 → Accepted xs p → ⊥) → ⊥) where
  pub count_some : 0 < p.query.count
  count_some = stable_lt 0 p.query.count (λ k. held (λ xs l a. k (omega (arith, a.holds.count, number_some a.atoms))))

  pub count_few : p.query.count ≤ 8
  count_few = stable_le p.query.count 8 (λ k. held (λ xs l a. k (omega (arith, a.holds.count, a.holds.few))))

  pub head_some : 0 < p.query.head.count
  head_some = stable_lt 0 p.query.head.count (λ k. held (λ xs l a. k (omega (arith, a.holds.head.count, names_some a.head))))

  pub head_few : p.query.head.count ≤ 26
  head_few = stable_le p.query.head.count 26 (λ k. held (λ xs l a. k (omega (arith, a.holds.head.count, names_few a.head a.shape.0))))

  pub names_long : length p.query.head.names ≡ 26
  names_long = stable_eq (length p.query.head.names) 26 (λ k. held (λ xs l a. k a.holds.head.long))

  -- no variable stands twice in the head
  pub head_distinct : (i j : ℕ) → i < j → j < p.query.head.count → get_or p.query.head.names i 0 ≡ get_or p.query.head.names j 0 → ⊥
  head_distinct i j ij jl e = held (λ xs l a.
      let few = head_few in
      let k = a.holds.head.kept in
      let n = a.holds.head.count in
      a.shape.0 j (omega arith) (i, ij, sym (k i (omega arith) (omega arith)) ∙ e ∙ k j (omega arith) (omega arith)))

  module _ (e : List Ends) (long : length e ≡ 8) (each : (d : Ends) (i : ℕ) → i < 8 → get_or e i d ≡ pair (get_or p.query.atoms i no_atom)) where
    -- the atoms stand in the order in which they are reached
    pub arranged : (x : ℕ) × Ordered (of (take p.query.count e)) (length (take p.query.count e)) x (ranks p.order)
    arranged =
        let R = ranks p.order in
        let x = get_or p.query.head.names 0 0 in (
          x,
          stable_ordered (of (take p.query.count e)) (length (take p.query.count e)) x R (λ k. held (λ xs l a.
              let same = ends_are e a.holds long each in
              k (subst (λ (y : ℕ). Ordered (of (take p.query.count e)) (length (take p.query.count e)) y R) (sym (first_name a.holds))
              (subst (λ (y : List Ends). Ordered (of y) (length y) (get_or (names a.head) 0 0) R) (sym same)
              (subst (λ (y : ℕ). Ordered (of (ends a.atoms)) y (get_or (names a.head) 0 0) R) (sym (ends_long a.atoms)) a.arranged.ordered))))),
        )

    -- some atom has the first free variable
    pub start_used : Absent (take p.query.count e) (get_or p.query.head.names 0 0) → ⊥
    start_used absent = held (λ xs l a.
        let same = ends_are e a.holds long each in
        a.shape.1 0 (names_some a.head)
        (subst (λ (y : ℕ). Absent (ends a.atoms) y) (first_name a.holds) (subst (λ (y : List Ends). Absent y (get_or p.query.head.names 0 0)) same absent)))
