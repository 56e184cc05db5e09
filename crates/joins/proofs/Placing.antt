-- A step on the words of a workspace is a semijoin of its tables.
use Rattle.std.proofs.Common.{◌≡◌, ℕ, ◌+◌, ◌*◌, ◌/◌, ◌%◌, ◌<◌, ◌≤◌, true, ◌&&◌, eqb, ltb, List, sym, ap, ◌∙◌, subst, inl, inr, arith}
use Rattle.std.proofs.lemmas.Nat.{div_below}
use Rattle.std.proofs.lemmas.Bool.{cases_eq, cases_lt, cases_Bool, and_parts, and_from, ltb-true, lt-ltb, both_ways}
use Rattle.bits.specs.Bits.{bit}
use Rattle.bits.specs.Rows.{row_bit}
use Rattle.meaning.specs.Shapes.{Atoms}
use Rattle.joins.specs.Sides.{Joined}
use Rattle.joins.specs.Plans.{Semijoin, at_variable}
use Rattle.joins.specs.Layouts.{tables, Ready, Reduced}
use Rattle.joins.proofs.Siding.{row_end}

pub record In (s : List ℕ) (m n w c u v : ℕ) : Type 0 where
  pub atom : c < m
  pub row : u < n
  pub column : v < n
  pub bit : row_bit s (c * (n * w) + u * w) v ≡ true

pub parts : (s : List ℕ) (m n w j u v : ℕ) → tables s m n w j u v ≡ true → In s m n w j u v
unfolding tables
parts s m n w j u v h =
    let a = and_parts (ltb j m) (ltb u n && (ltb v n && row_bit s (j * (n * w) + u * w) v)) h in
    let b = and_parts (ltb u n) (ltb v n && row_bit s (j * (n * w) + u * w) v) a.1 in
    let d = and_parts (ltb v n) (row_bit s (j * (n * w) + u * w) v) b.1 in
    record { atom = ltb-true j m a.0; row = ltb-true u n b.0; column = ltb-true v n d.0; bit = d.1 }

pub whole : (s : List ℕ) (m n w j u v : ℕ) → In s m n w j u v → tables s m n w j u v ≡ true
unfolding tables
whole s m n w j u v i =
    and_from (ltb j m) _ (lt-ltb j m i.atom) (and_from (ltb u n) _ (lt-ltb u n i.row) (and_from (ltb v n) _ (lt-ltb v n i.column) i.bit))

module _ (q : Atoms) (s t : List ℕ) (m n w p c x : ℕ) (pm : p < m) (cm : c < m) (nw : n ≤ w * 64) (ready : Ready s m n w)
    (jn : Joined s t (p * (n * w)) (c * (n * w)) n w (m * (n * w)) (eqb x (q.first p)) (eqb x (q.first c))) where
  -- the bits of another atom
  apart : (j u v : ℕ) → j < m → u < n → v < w * 64 → (j ≡ p → ⊥) → row_bit t (j * (n * w) + u * w) v ≡ row_bit s (j * (n * w) + u * w) v
  apart j u v jm un vw ne =
      let i : v / 64 < w = div_below v 64 w (omega arith) vw in
      let ru = row_end u n w un in
      let rm = row_end j m (n * w) jm in
      ap (λ (z : ℕ). bit z (v % 64)) (elim (cases_lt j p) [
        | inl l ↦ (let rl = row_end j p (n * w) l in jn.rest (j * (n * w) + u * w + v / 64) (λ a b. omega arith) (λ a b. omega arith))
        | inr g ↦ (let pl : p < j = omega arith in let rl = row_end p j (n * w) pl in jn.rest (j * (n * w) + u * w + v / 64) (λ a b. omega arith) (λ a b. omega arith))
      ])

  -- a bit that stands stood before
  fewer : (j u v : ℕ) → j < m → u < n → v < w * 64 → row_bit t (j * (n * w) + u * w) v ≡ true → row_bit s (j * (n * w) + u * w) v ≡ true
  fewer j u v jm un vw h = elim (cases_eq j p) [
    | inl e ↦ (let F : ℕ → Type 0 = λ k. (row_bit t (k * (n * w) + u * w) v ≡ true → row_bit s (k * (n * w) + u * w) v ≡ true) in
        (subst F (sym e) (λ b. (jn.kept u v un vw b).0)) h)
    | inr d ↦ sym (apart j u v jm un vw d) ∙ h
  ]

  -- a bit of a row is one of a pair of nodes
  node_bit : (u v : ℕ) → u < n → v < w * 64 → row_bit s (c * (n * w) + u * w) v ≡ true → v < n
  node_bit u v un vw h = elim (cases_lt v n) [ inl l ↦ l | inr g ↦ absurd (both_ways (row_bit s (c * (n * w) + u * w) v) (ready.clean c u v cm un g vw) h) ]

  semi_from : Semijoin q (tables s m n w) (tables t m n w) p c x
  semi_from = record {
    kept = λ j u v h. let i = parts t m n w j u v h in whole s m n w j u v (record {
      atom = i.atom;
      row = i.row;
      column = i.column;
      bit = fewer j u v i.atom i.row (omega (arith, i.column)) i.bit;
    });
    support = λ u v h. let i = parts t m n w p u v h in
        let o = (jn.kept u v i.row (omega (arith, i.column)) i.bit).1 in
        (o.0, o.1, whole s m n w c o.0 o.1 (record { atom = cm; row = o.2; column = node_bit o.0 o.1 o.2 o.3 o.5; bit = o.5 }), o.4);
    stays = λ j u v h need. let i = parts s m n w j u v h in whole t m n w j u v (record {
      atom = i.atom;
      row = i.row;
      column = i.column;
      bit = elim (cases_eq j p) [
        | inl e ↦ (let o = need e in
            let k = parts s m n w c o.0 o.1 o.2 in
            let F : ℕ → Type 0 = λ y. (row_bit s (y * (n * w) + u * w) v ≡ true → at_variable q c x o.0 o.1 ≡ at_variable q y x u v → row_bit t (y * (n * w) + u * w) v ≡ true) in
            (subst F (sym e) (λ b d. jn.stays u v i.row (omega (arith, i.column)) b (o.0, o.1, k.row, omega (arith, k.column), d, k.bit))) i.bit o.3)
        | inr d ↦ apart j u v i.atom i.row (omega (arith, i.column)) d ∙ i.bit
      ];
    });
  }

  pub reduced_from : Reduced q s t m n w p c x
  reduced_from = record {
    semi = semi_from;
    ready = record {
      clean = λ j u v jm un nv vw. elim (cases_Bool (row_bit t (j * (n * w) + u * w) v)) [
        | inl h ↦ absurd (both_ways (row_bit s (j * (n * w) + u * w) v) (ready.clean j u v jm un nv vw) (fewer j u v jm un vw h))
        | inr h ↦ h
      ];
      zero = jn.zero;
    };
    rest = λ k b. let e = row_end p m (n * w) pm in jn.rest k (λ x y. omega arith) (λ x y. omega arith);
  }
