-- Notes and keeps on a side, row by row, and a whole step.
use Rattle.std.proofs.Common.{◌≡◌, ℕ, ◌+◌, ◌*◌, ◌/◌, ◌%◌, ◌<◌, ◌≤◌, Bool, true, false, cond, ◌&&◌, ◌||◌, List, get_or, sym, refl, ap, ◌∙◌, subst, inl, inr, add-mul, one-mul, arith}
use Rattle.std.proofs.lemmas.Nat.{div_below, mul-le}
use Rattle.std.proofs.lemmas.Bool.{cases_eq, and_parts, and_from, and_right, or_cases, or_left, or_right, both_ways}
use Rattle.bits.specs.Bits.{bit}
use Rattle.bits.specs.Rows.{row_bit, Cleared, Narrowed, Widened}
use Rattle.bits.proofs.Laws.{bit_zero}
use Rattle.joins.specs.Sides.{RowNoted, NotedToo, Noted, RowKept, KeptBy, Joined}

-- a row stands whole before the next
pub row_end : (x u w : ℕ) → x < u → x * w + w ≤ u * w
row_end x u w lt = omega (arith, mul-le (x + 1) w u w (omega arith) (omega arith), add-mul x 1 w)

pub row_next : (u w : ℕ) → (u + 1) * w ≡ u * w + w
row_next u w = add-mul u 1 w ∙ ap (λ (z : ℕ). u * w + z) (one-mul w)

-- bits of a row whose words did not change
same_bit : (s t : List ℕ) (row w : ℕ) → ((k : ℕ) → row ≤ k → k < row + w → get_or t k 0 ≡ get_or s k 0) → (v : ℕ) → v < w * 64 → row_bit t row v ≡ row_bit s row v
same_bit s t row w same v vw =
    let i : v / 64 < w = div_below v 64 w (omega arith) vw in
    ap (λ (z : ℕ). bit z (v % 64)) (same (row + v / 64) (omega arith) (omega arith))

zero_bit : (t : List ℕ) (row w : ℕ) → ((k : ℕ) → row ≤ k → k < row + w → get_or t k 0 ≡ 0) → (v : ℕ) → v < w * 64 → row_bit t row v ≡ false
zero_bit t row w zeros v vw =
    let i : v / 64 < w = div_below v 64 w (omega arith) vw in
    ap (λ (z : ℕ). bit z (v % 64)) (zeros (row + v / 64) (omega arith) (omega arith)) ∙ bit_zero (v % 64)

pub noted_more : (s t r : List ℕ) (start u w mask : ℕ) → start + u * w + w ≤ mask → NotedToo s t start u w mask true → RowNoted t r (start + u * w) w mask u → NotedToo s r start (u + 1) w mask true
noted_more s t r start u w mask fits k a =
    let same = same_bit s t (start + u * w) w (λ j p q. k.rest j (λ x y. omega arith)) in
    record {
      some = λ x xw h. elim (a.some x h) [
        | inl e ↦ elim (k.some x xw e) [ inl d ↦ inl d | inr d ↦ inr (d.0, d.1, omega (arith, d.2), d.3, d.4, d.5) ]
        | inr e ↦ (let o = e.1 in inr (u, o.0, omega arith, o.1, sym e.0, sym (same o.0 o.1) ∙ o.2))
      ];
      old = λ x xw h. a.old x (k.old x xw h);
      all = λ x v xu vw h. elim (cases_eq x u) [
        | inl e ↦ (let F : ℕ → Type 0 = λ y. (row_bit s (start + y * w) v ≡ true → row_bit r mask y ≡ true) in
            (subst F (sym e) (λ g. a.all v vw (same v vw ∙ g))) h)
        | inr d ↦ a.old x (k.all x v (omega arith) vw h)
      ];
      rest = λ j o. a.rest j o ∙ k.rest j o;
    }

-- the set takes on one row's bits
pub noted_wider : (s t r : List ℕ) (start u w mask : ℕ) → start + u * w + w ≤ mask → NotedToo s t start u w mask false → Widened t r (start + u * w) mask w → NotedToo s r start (u + 1) w mask false
noted_wider s t r start u w mask fits k a =
    let same = same_bit s t (start + u * w) w (λ j p q. k.rest j (λ x y. omega arith)) in
    let split : (v : ℕ) → v < w * 64 → row_bit r mask v ≡ (row_bit t mask v || row_bit s (start + u * w) v) = λ v vw. a.bits v vw ∙ ap (λ (z : Bool). row_bit t mask v || z) (same v vw) in
    record {
      some = λ x xw h. elim (or_cases (row_bit t mask x) (row_bit s (start + u * w) x) (sym (split x xw) ∙ h)) [
        | inl e ↦ elim (k.some x xw e) [ inl d ↦ inl d | inr d ↦ inr (d.0, d.1, omega (arith, d.2), d.3, d.4, d.5) ]
        | inr e ↦ inr (u, x, omega arith, xw, refl, e)
      ];
      old = λ x xw h. split x xw ∙ or_left (row_bit t mask x) (row_bit s (start + u * w) x) (k.old x xw h);
      all = λ x v xu vw h. split v vw ∙ elim (cases_eq x u) [
        | inl e ↦ or_right (row_bit t mask v) (row_bit s (start + u * w) v) (let F : ℕ → Type 0 = λ y. row_bit s (start + y * w) v ≡ true in subst F e h)
        | inr d ↦ or_left (row_bit t mask v) (row_bit s (start + u * w) v) (k.all x v (omega arith) vw h)
      ];
      rest = λ j o. a.rest j o ∙ k.rest j o;
    }

pub noted_from : (s t r : List ℕ) (start n w mask : ℕ) (side : Bool) → start + n * w ≤ mask → Cleared s t mask w → NotedToo t r start n w mask side → Noted s r start n w mask side
noted_from s t r start n w mask side fits c a =
    let same : (u v : ℕ) → u < n → v < w * 64 → row_bit t (start + u * w) v ≡ row_bit s (start + u * w) v = λ u v un vw.
    (let e = row_end u n w un in same_bit s t (start + u * w) w (λ j p q. c.rest j (λ x y. omega arith)) v vw) in
    record {
      some = λ x xw h. elim (a.some x xw h) [
        | inl e ↦ absurd (both_ways (row_bit t mask x) (zero_bit t mask w c.zero x xw) e)
        | inr e ↦ (e.0, e.1, e.2, e.3, e.4, sym (same e.0 e.1 e.2 e.3) ∙ e.5)
      ];
      all = λ u v un vw h. a.all u v un vw (same u v un vw ∙ h);
      rest = λ j o. a.rest j o ∙ c.rest j o;
    }

pub row_kept_no : (s t : List ℕ) (row w mask u : ℕ) → row_bit s mask u ≡ false → Cleared s t row w → RowKept s t row w mask u
row_kept_no s t row w mask u h c = record {
  bits = λ v vw. zero_bit t row w c.zero v vw ∙ sym (and_right (row_bit s row v) (row_bit s mask u) h);
  rest = c.rest;
}

-- one row more, whatever is done to it
kept_row : (s t r : List ℕ) (start u w mask : ℕ) (side : Bool) → start + u * w + w ≤ mask → u < w * 64 → KeptBy s t start u w mask side
    → ((v : ℕ) → v < w * 64 → row_bit r (start + u * w) v ≡ (row_bit t (start + u * w) v && row_bit t mask (cond side u v)))
    → ((k : ℕ) → (start + u * w ≤ k → k < start + u * w + w → ⊥) → get_or r k 0 ≡ get_or t k 0) → KeptBy s r start (u + 1) w mask side
kept_row s t r start u w mask side fits uw k bits rest =
    let next = row_next u w in
    let row = same_bit s t (start + u * w) w (λ j p q. k.rest j (λ x y. omega arith)) in
    let set : (x : ℕ) → x < w * 64 → row_bit t mask x ≡ row_bit s mask x = same_bit s t mask w (λ j p q. k.rest j (λ x y. omega arith)) in
    record {
      bits = λ x v xu vw. elim (cases_eq x u) [
        | inl e ↦ (let F : ℕ → Type 0 = λ y. row_bit r (start + y * w) v ≡ (row_bit s (start + y * w) v && row_bit s mask (cond side y v)) in
            subst F (sym e) (bits v vw
            ∙ ap (λ (z : Bool). z && row_bit t mask (cond side u v)) (row v vw)
            ∙ ap (λ (z : Bool). row_bit s (start + u * w) v && z) (set (cond side u v) (side_below side u v (w * 64) uw vw))))
        | inr d ↦ (let lt : x < u = omega arith in let e = row_end x u w lt in
            same_bit t r (start + x * w) w (λ j p q. rest j (λ a b. omega arith)) v vw ∙ k.bits x v lt vw)
      ];
      rest = λ j o. rest j (λ a b. o (omega arith) (omega arith)) ∙ k.rest j (λ a b. o a (omega arith));
    }
  where
    side_below : (a : Bool) (u v m : ℕ) → u < m → v < m → cond a u v < m
    side_below true u v m um vm = um
    side_below false u v m um vm = vm

pub kept_more : (s t r : List ℕ) (start u w mask : ℕ) → start + u * w + w ≤ mask → u < w * 64 → KeptBy s t start u w mask true → RowKept t r (start + u * w) w mask u → KeptBy s r start (u + 1) w mask true
kept_more s t r start u w mask fits uw k a = kept_row s t r start u w mask true fits uw k a.bits a.rest

pub kept_narrower : (s t r : List ℕ) (start u w mask : ℕ) → start + u * w + w ≤ mask → u < w * 64 → KeptBy s t start u w mask false → Narrowed t r (start + u * w) mask w → KeptBy s r start (u + 1) w mask false
kept_narrower s t r start u w mask fits uw k a = kept_row s t r start u w mask false fits uw k a.bits a.rest

side_below : (a : Bool) (u v n m : ℕ) → u < n → n ≤ m → v < m → cond a u v < m
side_below true u v n m un nm vm = omega arith
side_below false u v n m un nm vm = vm

pub joined_from : (s t r z : List ℕ) (into of n w mask : ℕ) (a b : Bool) → into + n * w ≤ mask → of + n * w ≤ mask → n ≤ w * 64
    → Noted s t of n w mask b → KeptBy t r into n w mask a → Cleared r z mask w → Joined s z into of n w mask a b
joined_from s t r z into of n w mask a b fits fits' nw g k c =
    let same : (u v : ℕ) → u < n → v < w * 64 → row_bit t (into + u * w) v ≡ row_bit s (into + u * w) v = λ u v un vw.
    (let e = row_end u n w un in same_bit s t (into + u * w) w (λ j p q. g.rest j (λ x y. omega arith)) v vw) in
    let last : (u v : ℕ) → u < n → v < w * 64 → row_bit z (into + u * w) v ≡ row_bit r (into + u * w) v = λ u v un vw.
    (let e = row_end u n w un in same_bit r z (into + u * w) w (λ j p q. c.rest j (λ x y. omega arith)) v vw) in
    record {
      kept = λ u v un vw h.
          let p = and_parts (row_bit t (into + u * w) v) (row_bit t mask (cond a u v)) (sym (k.bits u v un vw) ∙ sym (last u v un vw) ∙ h) in
          (sym (same u v un vw) ∙ p.0, g.some (cond a u v) (side_below a u v n (w * 64) un nw vw) p.1);
      stays = λ u v un vw h o. last u v un vw ∙ k.bits u v un vw ∙ and_from (row_bit t (into + u * w) v) (row_bit t mask (cond a u v)) (same u v un vw ∙ h)
          (let F : ℕ → Type 0 = λ y. row_bit t mask y ≡ true in subst F o.4 (g.all o.0 o.1 o.2 o.3 o.5));
      zero = c.zero;
      rest = λ j o p. c.rest j p ∙ k.rest j o ∙ g.rest j p;
    }
