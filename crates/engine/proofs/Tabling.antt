-- Raw tables one after another, and what the passes leave of them.
use Rattle.std.proofs.Common.{◌≡◌, ℕ, ◌+◌, ◌*◌, ◌/◌, ◌%◌, ◌<◌, ◌≤◌, true, false, ◌↔◌, List, length, get_or, sym, ap, ◌∙◌, subst, inl, inr, arith}
use Rattle.std.proofs.lemmas.Nat.{div_below}
use Rattle.std.proofs.lemmas.List.{get_or_default}
use Rattle.std.proofs.lemmas.Bool.{cases_eq, cases_lt, both_ways}
use Rattle.bits.specs.Bits.{bit}
use Rattle.bits.specs.Rows.{row_bit, width}
use Rattle.meaning.specs.Answers.{Query, Pair, Satisfying, Kept}
use Rattle.meaning.specs.Assignments.{Relations, Satisfies, Uses}
use Rattle.meaning.specs.Graphs.{Graph}
use Rattle.meaning.specs.Paths.{Joins}
use Rattle.meaning.specs.Words.{Regex}
use Rattle.automata.specs.Machines.{Recognizes}
use Rattle.automata.specs.Positions.{size}
use Rattle.query.specs.declared.drafts.Atom.{Atom}
use Rattle.walk.specs.Tables.{Tells, Written}
use Rattle.joins.specs.Layouts.{tables}
use Rattle.joins.specs.Passes.{Passed}
use Rattle.joins.proofs.Placing.{parts, whole}
use Rattle.joins.proofs.Siding.{row_end}
use Rattle.engine.specs.Filled.{Raw, Filled}

-- one table more
module _ (g : Graph) (atoms : List Atom) (z₀ : Atom) (m i : ℕ) (Z Y Y₂ : List ℕ) (im : i < m) (long : i < length atoms) (raw : Raw g atoms m Z Y i) where
  abbrev n : ℕ
  n = g.nodes

  abbrev s : ℕ
  s = g.nodes * width g.nodes

  pub raw_more : ((r : Regex) → Recognizes (get_or atoms i z₀).automaton r → size r ≤ 63 → Tells (Joins g.has g.labels r) Y₂ (i * s) n) → Written Y Y₂ (i * s) n (m * s) → Raw g atoms m Z Y₂ (i + 1)
  raw_more tells written = record {
    pairs = λ z c r l rec few u v un vw. elim (cases_eq c i) [
      | inl e ↦ (let F : ℕ → Type 0 = λ y. Recognizes (get_or atoms y z).automaton r → (row_bit Y₂ (y * s + u * width n) v ≡ true) ↔ Joins g.has g.labels r u v in
          let G : Atom → Type 0 = λ a. Recognizes a.automaton r in
          (subst F (sym e) (λ k. tells r (subst G (get_or_default atoms i z z₀ long) k) few u v un vw)) rec)
      | inr d ↦ (let lt : c < i = omega arith in let o = old c u v lt un vw in let t = raw.pairs z c r lt rec few u v un vw in ((λ h. t.0 (sym o ∙ h)), λ h. o ∙ t.1 h))
    ];
    clean = λ c u v l un nv vw. elim (cases_eq c i) [
      | inl e ↦ (let F : ℕ → Type 0 = λ y. row_bit Y₂ (y * s + u * width n) v ≡ false in subst F (sym e) (written.clean u v un nv vw))
      | inr d ↦ (let lt : c < i = omega arith in old c u v lt un vw ∙ raw.clean c u v lt un nv vw)
    ];
    idle = λ l. written.idle;
    rest = λ k l. let e = row_end i m s im in written.rest k (λ a b. omega arith) (λ a b. omega arith) ∙ raw.rest k l;
  }
    where
      old : (c u v : ℕ) → c < i → u < n → v < width n * 64 → row_bit Y₂ (c * s + u * width n) v ≡ row_bit Y (c * s + u * width n) v
      old c u v lt un vw =
          let w : v / 64 < width n = div_below v 64 (width n) (omega arith) vw in
          let e = row_end c i s lt in
          let f = row_end i m s im in
          let h = row_end u n (width n) un in
          ap (λ (y : ℕ). bit y (v % 64)) (written.rest (c * s + u * width n + v / 64) (λ a b. omega arith) (λ a b. omega arith))

-- the same, where the code has another number for the size of a table
pub raw_next : (g : Graph) (atoms : List Atom) (z₀ : Atom) (m i : ℕ) (Z Y Y₂ : List ℕ) (y : ℕ) → y ≡ g.nodes * width g.nodes → i < m → i < length atoms → Raw g atoms m Z Y i
    → ((r : Regex) → Recognizes (get_or atoms i z₀).automaton r → size r ≤ 63 → Tells (Joins g.has g.labels r) Y₂ (i * y) g.nodes) → Written Y Y₂ (i * y) g.nodes (m * y) → Raw g atoms m Z Y₂ (i + 1)
raw_next g atoms z₀ m i Z Y Y₂ y e im long raw tells written =
    let F : ℕ → Type 0 = λ x. (r : Regex) → Recognizes (get_or atoms i z₀).automaton r → size r ≤ 63 → Tells (Joins g.has g.labels r) Y₂ (i * x) g.nodes in
    let G : ℕ → Type 0 = λ x. Written Y Y₂ (i * x) g.nodes (m * x) in
    raw_more g atoms z₀ m i Z Y Y₂ im long raw (subst F e tells) (subst G e written)

-- the pairs of the raw tables are those of the query's atoms
module _ (g : Graph) (q : Query) (r : Relations) (tells : (c u v : ℕ) → c < q.count → (r c u v ≡ true) ↔ Pair g q c u v) where
  satisfying_from : (f : ℕ → ℕ) → Satisfies q.atoms q.count r f → Satisfying g q f
  satisfying_from f all c l = (tells c (f (q.atoms.first c)) (f (q.atoms.second c)) l).0 (all c l)

  satisfies_from : (f : ℕ → ℕ) → Satisfying g q f → Satisfies q.atoms q.count r f
  satisfies_from f all c l = (tells c (f (q.atoms.first c)) (f (q.atoms.second c)) l).1 (all c l)

  pub kept_from : (c u v : ℕ) → Uses q.atoms q.count r c u v ↔ Kept g q c u v
  kept_from c u v = ((λ k. (k.0, satisfying_from k.0 k.1, k.2, k.3)), λ k. (k.0, satisfies_from k.0 k.1, k.2, k.3))

-- the raw tables tell the pairs of the query's atoms
pub raw_tells : (g : Graph) (atoms : List Atom) (z : Atom) (q : Query) (Z Y : List ℕ) → Raw g atoms q.count Z Y q.count
    → ((c : ℕ) → c < q.count → Recognizes (get_or atoms c z).automaton (q.expression c) × (size (q.expression c) ≤ 63))
    → (c u v : ℕ) → c < q.count → (tables Y q.count g.nodes (width g.nodes) c u v ≡ true) ↔ Pair g q c u v
raw_tells g atoms z q Z Y raw rec c u v l = (
  (λ h. let i = parts Y q.count g.nodes (width g.nodes) c u v h in
      (i.row, i.column, (raw.pairs z c (q.expression c) l (rec c l).0 (rec c l).1 u v i.row (omega (arith, i.column))).0 i.bit)),
  λ p. let col = p.1 in whole Y q.count g.nodes (width g.nodes) c u v (record {
    atom = l;
    row = p.0;
    column = p.1;
    bit = (raw.pairs z c (q.expression c) l (rec c l).0 (rec c l).1 u v p.0 (omega arith)).1 p.2;
  }),
)

-- what both passes leave
pub filled_from : (g : Graph) (atoms : List Atom) (z : Atom) (q : Query) (Z Y X : List ℕ) → Raw g atoms q.count Z Y q.count
    → ((c : ℕ) → c < q.count → Recognizes (get_or atoms c z).automaton (q.expression c) × (size (q.expression c) ≤ 63))
    → 0 < q.count → Passed q.atoms q.count Y X g.nodes (width g.nodes) → Filled g q Z X
filled_from g atoms z q Z Y X raw rec pos passed = record {
  tables = λ c u v l un vw.
      let e = passed.exact c u v l in
      let k = kept_from g q (tables Y m n w) (raw_tells g atoms z q Z Y raw rec) c u v in (
        λ h. elim (cases_lt v n) [
          | inl vn ↦ k.0 (e.0 (whole X m n w c u v (record { atom = l; row = un; column = vn; bit = h })))
          | inr g' ↦ absurd (both_ways (row_bit X (c * (n * w) + u * w) v) (passed.ready.clean c u v l un g' vw) h)
        ],
        λ h. (parts X m n w c u v (e.1 (k.1 h))).bit,
      );
  idle = λ i a b. elim (cases_lt i (m * (n * w) + w)) [
    | inl lt ↦ passed.ready.zero i a lt
    | inr ge ↦ passed.rest i ge ∙ raw.idle pos i a b
  ];
  rest = λ i a. let s = g.sized.0 in passed.rest i (omega arith) ∙ raw.rest i a;
}
  where
    m : ℕ
    m = q.count

    n : ℕ
    n = g.nodes

    w : ℕ
    w = width g.nodes
