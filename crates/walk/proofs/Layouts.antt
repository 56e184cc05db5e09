-- Rows and tables, word after word.
use Rattle.std.proofs.Common.{◌≡◌, ℕ, ◌+◌, ◌-◌, ◌*◌, ◌/◌, ◌%◌, ◌^◌, ◌<◌, ◌≤◌, Bool, true, cond, ◌↔◌, List, [], ◌∷◌, ◌++◌, length, get_or, take, drop, sym, refl, ap, ◌∙◌, subst, ⊎_elim, add-mul, arith, length-drop, length-take}
use borrow.Rule.Slice.PartMut.{put_mid}
use lib.Bits.{bit_and, and_le_r}
use Rattle.std.proofs.lemmas.Nat.{mul-le}
use Rattle.std.proofs.lemmas.Bool.{cases_Bool, cases_eq, cases_lt, both_ways, eq-eqb, ne_eqb}
use Rattle.std.proofs.lemmas.List.{get_or_append_left, get_or-append_right, get_or-take, get_or-drop, get_or_past}
use Rattle.bits.specs.Bits.{bit, Has}
use Rattle.bits.specs.Rows.{row_bit, width, RowSet, Cleared}
use Rattle.bits.proofs.Laws.{bit_zero}
use Rattle.bits.proofs.Sets.{has_and, has_zero, member}
use Rattle.meaning.specs.Graphs.{Edges}
use Rattle.meaning.specs.Paths.{Path, Joins}
use Rattle.meaning.specs.Words.{Regex}
use Rattle.automata.specs.declared.machine.Automaton.{Automaton}
use Rattle.automata.specs.Machines.{Recognizes}
use Rattle.automata.specs.Positions.{size}
use Rattle.walk.specs.Moves.{In, Leads, Spells}
use Rattle.walk.specs.Rows.{Kept, Upto, RowAt, TableAt}
use Rattle.walk.specs.Tables.{Tells, Written}
use Rattle.walk.proofs.Closure.{goes_from_leads, leads_from_goes}

pub row_end : (u n k : ℕ) → u < n → u * k + k ≤ n * k
row_end u n k h = omega (arith, mul-le (u + 1) k n k (omega arith) (omega arith), add-mul u 1 k)

-- a node at which a state of `accept` is seen
pub kept_yes : (Z : List ℕ) (t n accept x : ℕ) → accept < 2 ^ 64 → x < n → (bit_and (get_or Z (t + x) 0) accept ≡ 0 → ⊥) → Kept Z t n accept x
kept_yes Z t n accept x l b h =
    let w = bit_and (get_or Z (t + x) 0) accept in
    let q = member w (omega (arith, and_le_r (get_or Z (t + x) 0) accept)) (omega arith) in
    let r = (has_and (get_or Z (t + x) 0) accept q.0).0 q.1 in
    (b, (q.0, r.0, r.1))

pub kept_no : (Z : List ℕ) (t n accept x : ℕ) → bit_and (get_or Z (t + x) 0) accept ≡ 0 → Kept Z t n accept x → ⊥
kept_no Z t n accept x e k =
    has_zero k.1.0 (subst (λ (w : ℕ). Has w k.1.0) e ((has_and (get_or Z (t + x) 0) accept k.1.0).1 (k.1.1, k.1.2)))

-- a row, bit after bit
module _ (P : ℕ → Type 0) (Z Y : List ℕ) (start k : ℕ) where
  pub row_none : Cleared Z Y start k → RowAt (Upto P 0) Y Y start k
  row_none c = record {
    bits = λ x l. (
      (λ h. absurd (both_ways (row_bit Y start x) (ap (λ (y : ℕ). bit y (x % 64)) (c.zero (start + x / 64) (omega arith) (omega arith)) ∙ bit_zero (x % 64)) h)),
      λ h. absurd (omega (arith, h.0)),
    );
    rest = λ i o. refl;
  }

  pub row_more : (Y' : List ℕ) (v : ℕ) → v < k * 64 → RowAt (Upto P v) Z Y start k → RowSet Y Y' start v → P v → RowAt (Upto P (v + 1)) Z Y' start k
  row_more Y' v b r s p = record {
    bits = λ x l. ⊎_elim
        (λ (e : v ≡ x). ((λ h. (omega arith, subst P e p)), λ h. s.row x ∙ ap (λ (t : Bool). cond t true (row_bit Y start x)) (eq-eqb v x e)))
        (λ (n : v ≡ x → ⊥).
        let same : row_bit Y' start x ≡ row_bit Y start x = s.row x ∙ ap (λ (t : Bool). cond t true (row_bit Y start x)) (ne_eqb v x n) in
        ((λ h. let q = (r.bits x l).0 (sym same ∙ h) in (omega (arith, q.0), q.1)), λ h. same ∙ (r.bits x l).1 (omega (arith, h.0), h.1)))
        (cases_eq v x);
    rest = λ i o. s.rest i (λ e. o (omega arith) (omega arith)) ∙ r.rest i o;
  }

  pub row_skip : (v : ℕ) → RowAt (Upto P v) Z Y start k → (P v → ⊥) → RowAt (Upto P (v + 1)) Z Y start k
  row_skip v r n = record {
    bits = λ x l. (
      (λ h. let q = (r.bits x l).0 h in (omega (arith, q.0), q.1)),
      λ h. ⊎_elim (λ (e : x ≡ v). absurd (n (subst P e h.1))) (λ (o : x ≡ v → ⊥). (r.bits x l).1 (omega (arith, h.0), h.1)) (cases_eq x v),
    );
    rest = r.rest;
  }

-- a part of a list after it was written
module _ (a k : ℕ) (xs ys : List ℕ) (l : a + k ≤ length xs) (m : length ys ≡ k) where
  front : length (take a xs) ≡ a
  front = simp length-take (omega arith)

  put_low : (i : ℕ) → i < a → get_or (put_mid a k xs ys) i 0 ≡ get_or xs i 0
  put_low i h = get_or_append_left (take a xs) (ys ++ drop k (drop a xs)) 0 i (omega (arith, front)) ∙ get_or-take a xs i 0 h

  put_inside : (x : ℕ) → x < k → get_or (put_mid a k xs ys) (a + x) 0 ≡ get_or ys x 0
  put_inside x h =
      let e : (a + x) - a ≡ x = omega arith in
      get_or-append_right (take a xs) (ys ++ drop k (drop a xs)) a (a + x) 0 front (omega arith)
      ∙ ap (λ (i : ℕ). get_or (ys ++ drop k (drop a xs)) i 0) e
      ∙ get_or_append_left ys (drop k (drop a xs)) 0 x (omega arith)

  put_high : (i : ℕ) → a + k ≤ i → get_or (put_mid a k xs ys) i 0 ≡ get_or xs i 0
  put_high i h =
      let e : a + (k + ((i - a) - k)) ≡ i = omega arith in
      get_or-append_right (take a xs) (ys ++ drop k (drop a xs)) a i 0 front (omega arith)
      ∙ get_or-append_right ys (drop k (drop a xs)) k (i - a) 0 m (omega arith)
      ∙ get_or-drop k (drop a xs) ((i - a) - k) 0
      ∙ get_or-drop a xs (k + ((i - a) - k)) 0
      ∙ ap (λ (y : ℕ). get_or xs y 0) e

  put_rest : (i : ℕ) → (a ≤ i → i < a + k → ⊥) → get_or (put_mid a k xs ys) i 0 ≡ get_or xs i 0
  put_rest i o = ⊎_elim (put_low i) (λ h. ⊎_elim (λ b. absurd (o h b)) (put_high i) (cases_lt i (a + k))) (cases_lt i a)

pub part_length : (xs : List ℕ) (a e : ℕ) → e ≤ length xs → length (take (e - a) (drop a xs)) ≡ e - a
part_length xs a e h = simp (length-take, length-drop) (omega arith)

-- a table, row after row
pub table_none : (P : ℕ → ℕ → Type 0) (Z : List ℕ) (a k t m : ℕ) → TableAt P Z Z a k 0 t m
table_none P Z a k t m = record { bits = λ u x h. absurd (omega arith); rest = λ i o p. refl }

pub table_more : (P : ℕ → ℕ → Type 0) (Q : ℕ → Type 0) (Z Y ys Y₂ : List ℕ) (a k u n t m : ℕ) → TableAt P Z Y a k u t m → length ys ≡ m → a + n * k ≤ t → t + m ≤ length Y → u < n
    → RowAt Q (put_mid t m Y ys) Y₂ (a + u * k) k → ((x : ℕ) → Q x ↔ P u x) → TableAt P Z Y₂ a k (u + 1) t m
table_more P Q Z Y ys Y₂ a k u n t m tab len b l h row same =
    record {
      bits = λ v x c d. ⊎_elim
          (λ e. subst (λ (y : ℕ). (row_bit Y₂ (a + y * k) x ≡ true) ↔ P y x) (sym e) ((λ r. (same x).0 ((row.bits x d).0 r)), λ r. (row.bits x d).1 ((same x).1 r)))
          (λ ne. let q : v < u = omega arith in let e = ap (λ (y : ℕ). bit y (x % 64)) (old v (x / 64) q (omega arith)) in
          ((λ r. (tab.bits v x q d).0 (sym e ∙ r)), λ r. e ∙ (tab.bits v x q d).1 r)) (cases_eq v u);
      rest = λ i o p. row.rest i (λ x y. o (omega arith) (omega (arith, add-mul u 1 k))) ∙ put_rest t m Y ys l len i p ∙ tab.rest i (λ x y. o x (omega (arith, add-mul u 1 k))) p;
    }
  where
    old : (v w : ℕ) → v < u → w < k → get_or Y₂ (a + v * k + w) 0 ≡ get_or Y (a + v * k + w) 0
    old v w q d =
        let r = row_end v u k q in
        let s = row_end u n k h in
        let lt : a + v * k + w < t = omega arith in
        row.rest (a + v * k + w) (λ x y. omega arith) ∙ put_low t m Y ys l len (a + v * k + w) lt

-- the scratch words are cleared behind a whole table
module _ (P : ℕ → ℕ → Type 0) (Z Y Y₂ : List ℕ) (a n t : ℕ) (b : a + n * width n ≤ t) (tab : TableAt P Z Y a (width n) n t (n + n)) (c : Cleared Y Y₂ t (n + n)) where
  old : (u w : ℕ) → u < n → w < width n → get_or Y₂ (a + u * width n + w) 0 ≡ get_or Y (a + u * width n + w) 0
  old u w h l = let r = row_end u n (width n) h in c.rest (a + u * width n + w) (λ x y. omega arith)

  pub table_tells : (Q : ℕ → ℕ → Type 0) → ((u v : ℕ) → P u v ↔ Q u v) → Tells Q Y₂ a n
  table_tells Q same u v h l =
      let e = ap (λ (y : ℕ). bit y (v % 64)) (old u (v / 64) h (omega arith)) in
      ((λ r. (same u v).0 ((tab.bits u v h l).0 (sym e ∙ r))), λ r. e ∙ (tab.bits u v h l).1 ((same u v).1 r))

  pub table_written : ((u v : ℕ) → u < n → P u v → v < n) → Written Z Y₂ a n t
  table_written below = record {
    clean = λ u v h g l. let e = ap (λ (y : ℕ). bit y (v % 64)) (old u (v / 64) h (omega arith)) in
        ⊎_elim (λ (k : row_bit Y₂ (a + u * width n) v ≡ true). let x = below u v h ((tab.bits u v h l).0 (sym e ∙ k)) in absurd (omega arith)) (λ k. k) (cases_Bool (row_bit Y₂ (a + u * width n) v));
    idle = c.zero;
    rest = λ k o p. c.rest k p ∙ tab.rest k o p;
  }

-- a path stays among the nodes
pub path_below : (E : Edges) (n : ℕ) → ((u a v : ℕ) → E u a v ≡ true → v < n) → (x : List ℕ) (u v : ℕ) → u < n → Path E u x v → v < n
path_below E n legal [] u v l p = subst (λ (y : ℕ). y < n) p l
path_below E n legal (a ∷ x) u v l p = path_below E n legal x p.0 v (legal u a p.0 p.1) p.2

-- what the row of the scratch words says, in terms of paths
module _ (E : Edges) (q : ℕ) (m : Automaton) where
  pub kept_spells : (Y ys : List ℕ) (u n t k : ℕ) → t + k ≤ length Y → length ys ≡ k → n ≤ k
      → ((v s : ℕ) → In (take n ys) v s ↔ ((x : List ℕ) × Path E u x v × Leads q m 0 x s)) → (v : ℕ) → Kept (put_mid t k Y ys) t n m.accept v ↔ Spells E q m u v
  kept_spells Y ys u n t k l len b walked v = (
    (λ h. let e = get_or-take n ys v 0 h.0 ∙ sym (put_inside t k Y ys l len v (omega (arith, h.0))) in
        let r = (walked v h.1.0).0 (subst (λ (y : ℕ). Has y h.1.0) (sym e) h.1.1) in
        (r.0, r.1, goes_from_leads E q m 0 r.0 h.1.0 r.2 h.1.2)),
    λ j. let g = leads_from_goes E q m 0 j.0 j.2 in
        let i = (walked v g.0).1 (j.0, j.1, g.1) in
        let low : v < n = ⊎_elim (λ h. h) (λ h. absurd (has_zero g.0 (subst (λ (y : ℕ). Has y g.0) (past v h) i))) (cases_lt v n) in
        let e = get_or-take n ys v 0 low ∙ sym (put_inside t k Y ys l len v (omega arith)) in
        (low, (g.0, subst (λ (y : ℕ). Has y g.0) e i, g.2)),
  )
    where
      past : (v : ℕ) → n ≤ v → get_or (take n ys) v 0 ≡ 0
      past v h = get_or_past (take n ys) v 0 (simp length-take (omega arith))

  pub spells_joins : (r : Regex) → Recognizes m r → size r ≤ 63 → (u v : ℕ) → Spells E q m u v ↔ Joins E q r u v
  spells_joins r rec few u v = (
    (λ h. (h.0, h.1, (rec.words few q h.0).0 h.2)),
    λ h. (h.0, h.1, (rec.words few q h.0).1 h.2),
  )
