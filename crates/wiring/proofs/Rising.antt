-- Rising lists of edges, made in the order of nodes, labels and ends.
use Rattle.std.proofs.Common.{◌≡◌, ℕ, ◌+◌, ◌<◌, ◌≤◌, true, ◌⊎◌, List, [], ◌∷◌, ◌++◌, length, get_or, Some, None, sym, refl, ap, ◌∙◌, subst, inl, inr, ⊎_elim, arith}
use Rattle.std.proofs.lemmas.Bool.{cases_lt, both_ways}
use Rattle.std.proofs.lemmas.List.{get_or_append_left, get_or_push, length_push}
use Rattle.meaning.specs.Graphs.{Graph}
use Rattle.graph.specs.declared.edges.Edge.{Edge}
use Rattle.graph.specs.Edges.{edge, blank, Lowest}
use Rattle.wiring.specs.Listing.{Before, Lists, Wire, WireBelow}

pub lists_same : (P Q : Edge → Type 0) (xs : List Edge) → ((e : Edge) → P e → Q e) → ((e : Edge) → Q e → P e) → Lists P xs → Lists Q xs
lists_same P Q xs to from l = record {
  rising = l.rising;
  sound = λ i h. to (get_or xs i blank) (l.sound i h);
  whole = λ e q. l.whole e (from e q);
}

module _ (P Q : Edge → Type 0) (xs : List Edge) (y : Edge) (l : Lists P xs) where
  abbrev ys : List Edge
  ys = xs ++ y ∷ []

  at_old : (i : ℕ) → i < length xs → get_or ys i blank ≡ get_or xs i blank
  at_old i h = get_or_append_left xs (y ∷ []) blank i h

  at_new : (i : ℕ) → length xs ≡ i → get_or ys i blank ≡ y
  at_new i h = get_or_push xs y blank i h

  pub lists_push : ((e : Edge) → P e → Before e y) → ((e : Edge) → P e → Q e) → Q y → ((e : Edge) → Q e → P e ⊎ (y ≡ e)) → Lists Q ys
  lists_push above keeps here only =
      let long : length ys ≡ length xs + 1 = length_push xs y in
      record {
        rising = λ i j lt h.
            let low : i < length xs = omega arith in
            ⊎_elim
            (λ (k : j < length xs).
            subst (λ (z : Edge). Before (get_or ys i blank) z) (sym (at_old j k))
            (subst (λ (z : Edge). Before z (get_or xs j blank)) (sym (at_old i low)) (l.rising i j lt k)))
            (λ (k : length xs ≤ j).
            subst (λ (z : Edge). Before (get_or ys i blank) z) (sym (at_new j (omega arith)))
            (subst (λ (z : Edge). Before z y) (sym (at_old i low)) (above (get_or xs i blank) (l.sound i low))))
            (cases_lt j (length xs));
        sound = λ i h.
            ⊎_elim
            (λ (k : i < length xs). subst Q (sym (at_old i k)) (keeps (get_or xs i blank) (l.sound i k)))
            (λ (k : length xs ≤ i). subst Q (sym (at_new i (omega arith))) here)
            (cases_lt i (length xs));
        whole = λ e q.
            ⊎_elim
            (λ (p : P e). let w = l.whole e p in let lt = w.1 in (w.0, omega arith, at_old w.0 w.1 ∙ w.2))
            (λ (p : y ≡ e). (length xs, omega arith, at_new (length xs) refl ∙ p))
            (only e q);
      }

-- an edge of the row from u under a, at b or beyond
abbrev pub InRow : ℕ → ℕ → ℕ → Edge → Type 0
InRow u a b e = (e.from ≡ u) × (e.label ≡ a) × (b ≤ e.to)

before_more : (u a b v : ℕ) (e : Edge) → b ≤ v → Before e (edge u a b) → Before e (edge u a v)
before_more u a b v e l (inl p) = inl p
before_more u a b v e l (inr (f, inl p)) = inr (f, inl p)
before_more u a b v e l (inr (f, inr (g, p))) = inr (f, inr (g, omega arith))

-- before the end v of a row, and so before the end b or between
row_cases : (u a b v : ℕ) (e : Edge) → Before e (edge u a v) → Before e (edge u a b) ⊎ (InRow u a b e × (e.to < v))
row_cases u a b v e (inl p) = inl (inl p)
row_cases u a b v e (inr (f, inl p)) = inl (inr (f, inl p))
row_cases u a b v e (inr (f, inr (g, p))) =
    ⊎_elim (λ (l : e.to < b). inl (inr (f, inr (g, l)))) (λ (l : b ≤ e.to). inr ((f, g, l), p)) (cases_lt e.to b)

before_next_row : (u a b : ℕ) (e : Edge) → Before e (edge u a b) → Before e (edge u (a + 1) 0)
before_next_row u a b e (inl p) = inl p
before_next_row u a b e (inr (f, inl p)) = inr (f, inl (omega arith))
before_next_row u a b e (inr (f, inr (g, p))) = inr (f, inl (omega arith))

next_row_cases : (u a b : ℕ) (e : Edge) → Before e (edge u (a + 1) 0) → Before e (edge u a b) ⊎ InRow u a b e
next_row_cases u a b e (inl p) = inl (inl p)
next_row_cases u a b e (inr (f, inr (g, p))) = absurd (omega arith)
next_row_cases u a b e (inr (f, inl p)) =
    ⊎_elim
    (λ (l : e.label < a). inl (inr (f, inl l)))
    (λ (l : a ≤ e.label).
    ⊎_elim
    (λ (k : e.to < b). inl (inr (f, inr (omega arith, k))))
    (λ (k : b ≤ e.to). inr (f, omega arith, k))
    (cases_lt e.to b))
    (cases_lt e.label a)

in_row : (g : Graph) (u a b : ℕ) (e : Edge) → InRow u a b e → Wire g e → g.has u a e.to ≡ true
in_row g u a b e r w =
    ap (λ (z : ℕ). g.has z a e.to) (sym r.0) ∙ ap (λ (z : ℕ). g.has e.from z e.to) (sym r.1) ∙ w

module _ (g : Graph) (u a b : ℕ) (xs : List Edge) (l : Lists (WireBelow g (edge u a b)) xs) where
  -- the next edge of the row
  pub row_more : (v : ℕ) → Lowest g.has u a b (Some v) → Lists (WireBelow g (edge u a (v + 1))) (xs ++ edge u a v ∷ [])
  row_more v low =
      lists_push (WireBelow g (edge u a b)) (WireBelow g (edge u a (v + 1))) xs (edge u a v) l
      (λ e p. before_more u a b v e low.0 p.1)
      (λ e p. (p.0, let q = low.0 in before_more u a b (v + 1) e (omega arith) p.1))
      (low.1, inr (refl, inr (refl, omega arith)))
      (λ e q.
      ⊎_elim
      (λ (p : Before e (edge u a b)). inl (q.0, p))
      (λ (p : InRow u a b e × (e.to < v + 1)).
      ⊎_elim
      (λ (k : e.to < v).
      absurd (both_ways _ (low.2 e.to p.0.2 k) (in_row g u a b e p.0 q.0)))
      (λ (k : v ≤ e.to).
      let f = p.0.0 in let h = p.0.1 in let lt = p.1 in
      let t : e.to ≡ v = omega arith in
      let same : edge u a v ≡ edge e.from e.label e.to = cc in inr same)
      (cases_lt e.to v))
      (row_cases u a b (v + 1) e q.1))

  -- the end of the row
  pub row_all : Lowest g.has u a b None → Lists (WireBelow g (edge u (a + 1) 0)) xs
  row_all none =
      lists_same (WireBelow g (edge u a b)) (WireBelow g (edge u (a + 1) 0)) xs
      (λ e p. (p.0, before_next_row u a b e p.1))
      (λ e q. (
        q.0,
        ⊎_elim
            (λ p. p)
            (λ (p : InRow u a b e). absurd (both_ways _ (none e.to p.2) (in_row g u a b e p q.0)))
            (next_row_cases u a b e q.1),
      ))
      l

next_node : (u q : ℕ) (e : Edge) → Before e (edge u q 0) → Before e (edge (u + 1) 0 0)
next_node u q e (inl p) = inl (omega arith)
next_node u q e (inr (f, p)) = inl (omega arith)

next_node_from : (u q : ℕ) (e : Edge) → e.label < q → Before e (edge (u + 1) 0 0) → Before e (edge u q 0)
next_node_from u q e l (inl p) =
    ⊎_elim (λ (k : e.from < u). inl k) (λ (k : u ≤ e.from). inr (omega arith, inl l)) (cases_lt e.from u)
next_node_from u q e l (inr (f, inl p)) = absurd (omega arith)
next_node_from u q e l (inr (f, inr (g, p))) = absurd (omega arith)

-- the rows of a node end with its last label
pub node_all : (g : Graph) (u : ℕ) (xs : List Edge) → Lists (WireBelow g (edge u g.labels 0)) xs → Lists (WireBelow g (edge (u + 1) 0 0)) xs
node_all g u xs =
    lists_same (WireBelow g (edge u g.labels 0)) (WireBelow g (edge (u + 1) 0 0)) xs
    (λ e p. (p.0, next_node u g.labels e p.1))
    (λ e q. (q.0, next_node_from u g.labels e (g.legal e.from e.label e.to q.0).1 q.1))
