-- The lowest end of an edge, where one edge more is in the set.
use Rattle.std.proofs.Common.{◌≡◌, ℕ, ◌<◌, ◌≤◌, min, Bool, true, false, cond, ◌||◌, Some, None, Option, sym, refl, ap, subst, ⊎_elim, arith}
use Rattle.std.proofs.lemmas.Bool.{cases_lt, cases_Bool, le-leb, leb-true, eqb-true, eq-eqb, and_parts, and_from, both_ways}
use Rattle.meaning.specs.Graphs.{Edges}
use Rattle.graph.specs.declared.edges.Edge.{Edge}
use Rattle.graph.specs.Edges.{edge, is, Lowest, lowered, leads}
use Rattle.graph.proofs.Same.{is_other, is_self, edge_from_at}

module _ (E E' : Edges) (y : Edge) (h : (u a v : ℕ) → E' u a v ≡ (is y u a v || E u a v)) (u a b : ℕ) where
  stays : (v : ℕ) → E u a v ≡ true → E' u a v ≡ true
  stays v t =
      let k = h u a v in
      ⊎_elim (λ (s : is y u a v ≡ true). cc) (λ (s : is y u a v ≡ false). cc) (cases_Bool (is y u a v))

  lacks : (v : ℕ) → (y ≡ edge u a v → ⊥) → E u a v ≡ false → E' u a v ≡ false
  lacks v ne f = let k = h u a v in let s = is_other y u a v ne in cc

  skip : (r : Option ℕ) → ((v : ℕ) → b ≤ v → y ≡ edge u a v → ⊥) → Lowest E u a b r → Lowest E' u a b r
  skip None ne l = λ v k. lacks v (ne v k) (l v k)
  skip (Some w) ne l = (l.0, stays w l.1, λ v k j. lacks v (ne v k) (l.2 v k j))

  at_end : y ≡ edge u a y.to → E' u a y.to ≡ true
  at_end p =
      let k = h u a y.to in
      let s : is y u a y.to ≡ true = subst (λ (z : Edge). is y z.from z.label z.to ≡ true) p (is_self y) in
      cc

  below : (v : ℕ) → v < y.to → y ≡ edge u a v → ⊥
  below v l p = let q = ap (λ (x : Edge). x.to) p in omega arith

  into : (r : Option ℕ) → y ≡ edge u a y.to → b ≤ y.to → Lowest E u a b r → Lowest E' u a b (lowered r y.to)
  into None p l k = (l, at_end p, λ v i j. lacks v (below v j) (k v i))
  into (Some w) p l k =
      let low = k.0 in (
        omega arith,
        ⊎_elim
            (λ (s : w < y.to). let m : min w y.to ≡ w = omega arith in subst (λ (z : ℕ). E' u a z ≡ true) (sym m) (stays w k.1))
            (λ (s : y.to ≤ w). let m : min w y.to ≡ y.to = omega arith in subst (λ (z : ℕ). E' u a z ≡ true) (sym m) (at_end p))
            (cases_lt w y.to),
        λ v i j. lacks v (below v (omega arith)) (k.2 v i (omega arith)),
      )

  pub lowest_more : (r : Option ℕ) → Lowest E u a b r → Lowest E' u a b (cond (leads y u a b) (lowered r y.to) r)
  lowest_more r l =
      ⊎_elim
      (λ (t : leads y u a b ≡ true).
      let p = and_parts _ _ t in
      let q = and_parts _ _ p.1 in
      let same : y ≡ edge u a y.to = edge_from_at y u a y.to (eqb-true y.from u p.0, eqb-true y.label a q.0, refl) in
      subst (λ (z : Bool). Lowest E' u a b (cond z (lowered r y.to) r)) (sym t) (into r same (leb-true b y.to q.1) l))
      (λ (t : leads y u a b ≡ false).
      subst (λ (z : Bool). Lowest E' u a b (cond z (lowered r y.to) r)) (sym t)
      (skip r
      (λ v k e.
      let f : y.from ≡ u = ap (λ (x : Edge). x.from) e in
      let g : y.label ≡ a = ap (λ (x : Edge). x.label) e in
      let m : y.to ≡ v = ap (λ (x : Edge). x.to) e in
      both_ways _ t (and_from _ _ (eq-eqb y.from u f) (and_from _ _ (eq-eqb y.label a g) (le-leb b y.to (omega arith)))))
      l))
      (cases_Bool (leads y u a b))
