-- The edges of a small table, after a write to the word of one edge.
use Rattle.std.proofs.Common.{◌≡◌, ℕ, ◌+◌, ◌*◌, ◌%◌, ◌<◌, ◌≤◌, Bool, true, false, cond, ◌&&◌, eqb, ltb, List, length, get_or, set, replicate, sym, refl, ap, ◌∙◌, subst, ⊎_elim, mod-eq_of_lt, arith}
use Rattle.std.proofs.lemmas.Nat.{mul-le}
use Rattle.std.proofs.lemmas.List.{get_or-set_same, get_or-set_other, get_or-replicate, get_or_past, length-replicate}
use Rattle.std.proofs.lemmas.Bool.{cases_eq, cases_lt, cases_Bool, and_parts, and_from, and_right, ltb-true, lt-ltb, eq-eqb, both_ways}
use Rattle.bits.specs.Bits.{bit}
use Rattle.bits.proofs.Laws.{bit_zero}
use Rattle.meaning.specs.Graphs.{Edges, Legal, count}
use Rattle.meaning.proofs.Counts.{count_bound}
use Rattle.graph.specs.declared.edges.Edge.{Edge}
use Rattle.graph.specs.Edges.{holds, is}
use Rattle.graph.specs.Rows.{in_table}
use Rattle.graph.proofs.OneEdge.{Changed, LegalEdge, count_put}
use Rattle.graph.proofs.Same.{is_other}

abbrev legal_test : ℕ → ℕ → ℕ → ℕ → ℕ → Bool
legal_test n q u a v = ltb u n && (ltb a q && ltb v n)

pub legal_from_test : (n q u a v : ℕ) → legal_test n q u a v ≡ true → Legal n q u a v
legal_from_test n q u a v t =
    let p = and_parts _ _ t in
    let r = and_parts _ _ p.1 in
    (ltb-true u n p.0, ltb-true a q r.0, ltb-true v n r.1)

test_from_legal : (n q u a v : ℕ) → Legal n q u a v → legal_test n q u a v ≡ true
test_from_legal n q u a v l = and_from _ _ (lt-ltb u n l.0) (and_from _ _ (lt-ltb a q l.1) (lt-ltb v n l.2))

pub legal_in_table : (n q : ℕ) (ws : List ℕ) (e : Edge) → holds (in_table n q ws) e ≡ true → LegalEdge n q e
legal_in_table n q ws e h = legal_from_test n q e.from e.label e.to (and_parts _ _ h).0

module _ (n q : ℕ) (ws : List ℕ) (e : Edge) (b : Bool) (w : ℕ) (small : n ≤ 64) (labels : q ≤ 26) (wide : length ws ≡ 1664) (fit : LegalEdge n q e)
    (word : (j : ℕ) → bit w j ≡ cond (eqb (e.to % 64) j) b (bit (get_or ws (e.label * 64 + e.from) 0) j)) where
  abbrev place : ℕ
  place = e.label * 64 + e.from

  within : place < length ws
  within = let f = fit.0 in let l = fit.1 in omega arith

  to_low : e.to % 64 ≡ e.to
  to_low = mod-eq_of_lt (let t = fit.2 in let k : e.to < 64 = omega arith in k)

  in_row : (u a v : ℕ) → Legal n q u a v → a * 64 + u ≡ place → bit (get_or (set ws place w) (a * 64 + u) 0) v ≡ cond (is e u a v) b (bit (get_or ws (a * 64 + u) 0) v)
  in_row u a v l same =
      let lu = l.0 in let fu = fit.0 in
      let from : e.from ≡ u = omega arith in
      let label : e.label ≡ a = omega arith in
      let f = eq-eqb _ _ from in
      let g = eq-eqb _ _ label in
      let is_to : is e u a v ≡ eqb e.to v = cc in
      ap (λ (k : ℕ). bit (get_or (set ws place w) k 0) v) same
      ∙ ap (λ (k : ℕ). bit k v) (get_or-set_same ws place w 0 within)
      ∙ word v
      ∙ ap (λ (k : ℕ). cond (eqb k v) b (bit (get_or ws place 0) v)) to_low
      ∙ ap (λ (t : Bool). cond t b (bit (get_or ws place 0) v)) (sym is_to)
      ∙ ap (λ (k : ℕ). cond (is e u a v) b (bit (get_or ws k 0) v)) (sym same)

  off_row : (u a v : ℕ) → (a * 64 + u ≡ place → ⊥) → bit (get_or (set ws place w) (a * 64 + u) 0) v ≡ cond (is e u a v) b (bit (get_or ws (a * 64 + u) 0) v)
  off_row u a v ne =
      let off : is e u a v ≡ false = is_other e u a v (λ p. ne (sym (ap (λ (z : Edge). z.label * 64 + z.from) p))) in
      ap (λ (k : ℕ). bit k v) (get_or-set_other ws place (a * 64 + u) w 0 ne)
      ∙ ap (λ (t : Bool). cond t b (bit (get_or ws (a * 64 + u) 0) v)) (sym off)

  pub table_changed : Changed e b (in_table n q ws) (in_table n q (set ws place w))
  table_changed u a v =
      ⊎_elim
      (λ (t : legal_test n q u a v ≡ true).
      let l = legal_from_test n q u a v t in
      let here : bit (get_or (set ws place w) (a * 64 + u) 0) v ≡ cond (is e u a v) b (bit (get_or ws (a * 64 + u) 0) v)
      = ⊎_elim (in_row u a v l) (off_row u a v) (cases_eq (a * 64 + u) place) in
      cc)
      (λ (t : legal_test n q u a v ≡ false).
      let off : is e u a v ≡ false
      = is_other e u a v (λ p. both_ways _ t (test_from_legal n q u a v (subst (λ (z : Edge). LegalEdge n q z) p fit))) in
      cc)
      (cases_Bool (legal_test n q u a v))

-- a legal edge that a set lacks leaves room in it
pub room_left : (n q : ℕ) (E : Edges) (e : Edge) → LegalEdge n q e → holds E e ≡ false → count n q E < n * n * q
room_left n q E e fit lacks =
    let E' : Edges = λ u a v. cond (is e u a v) true (E u a v) in
    let more = count_put n q e E E' fit lacks (λ u a v. refl) in
    let bound = count_bound n q E' in
    omega arith

pub count_small : (n q : ℕ) (E : Edges) → n ≤ 64 → q ≤ 26 → count n q E ≤ 106496
count_small n q E h k =
    let b = count_bound n q E in
    let m : n * n * q ≤ 64 * 64 * 26 = mul-le (n * n) q (64 * 64) 26 (mul-le n n 64 64 h h) k in
    omega arith

pub table_none : (n q u a v : ℕ) → in_table n q (replicate 1664 0) u a v ≡ false
table_none n q u a v =
    let zero' : get_or {A = ℕ} (replicate 1664 0) (a * 64 + u) 0 ≡ 0
    = ⊎_elim
    (λ (l : a * 64 + u < 1664). get_or-replicate 1664 (a * 64 + u) 0 0 l)
    (λ (l : 1664 ≤ a * 64 + u). get_or_past (replicate 1664 0) (a * 64 + u) 0 (simp length-replicate l))
    (cases_lt (a * 64 + u) 1664) in
    and_right _ _ (ap (λ (k : ℕ). bit k v) zero' ∙ bit_zero v)
