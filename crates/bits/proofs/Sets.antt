-- Words as sets of their set bits.
use Rattle.std.proofs.Common.{◌≡◌, ℕ, zero, suc, ◌+◌, ◌-◌, ◌*◌, ◌/◌, ◌%◌, ◌^◌, ◌<◌, ◌≤◌, Bool, true, false, cond, not, eqb, ◌⊎◌, ◌↔◌, Some, sym, refl, ap, ◌∙◌, inl, inr, ⊎_elim, arith}
use lib.Bits.{bit_and, bit_or, and_step, and_self}
use lib.Count.{count_trailing_zeros}
use Rattle.std.proofs.lemmas.Nat.{pow-add}
use Rattle.std.proofs.lemmas.Bool.{and_parts, and_from, both_ways, cases_Bool, cases_eq, cases_lt, eq-eqb, eqb-true, ne_eqb, or_cases, or_left, or_right}
use Rattle.bits.specs.Bits.{bit, Has, LowestBit}
use Rattle.bits.proofs.Laws.{bit_above, bit-and, bit_low, bit-or, bit_up, bit_zero, trailing_lowest, two}

pub has_or : (a b p : ℕ) → Has (bit_or a b) p ↔ (Has a p ⊎ Has b p)
has_or a b p = (
  (λ h. or_cases (bit a p) (bit b p) (sym (bit-or a b p) ∙ h)),
  elim [ inl h ↦ bit-or a b p ∙ or_left (bit a p) (bit b p) h | inr h ↦ bit-or a b p ∙ or_right (bit a p) (bit b p) h ],
)

pub has_and : (a b p : ℕ) → Has (bit_and a b) p ↔ (Has a p × Has b p)
has_and a b p = (
  (λ h. and_parts (bit a p) (bit b p) (sym (bit-and a b p) ∙ h)),
  λ h. bit-and a b p ∙ and_from (bit a p) (bit b p) h.0 h.1,
)

pub has_zero : (p : ℕ) → Has 0 p → ⊥
has_zero p h = both_ways (bit 0 p) (bit_zero p) h

-- the set of one number
pub has_only : (m b p : ℕ) → bit m p ≡ eqb b p → Has m p ↔ (p ≡ b)
has_only m b p e = ((λ h. sym (eqb-true b p (sym e ∙ h))), λ h. e ∙ eq-eqb b p (sym h))

-- a word of 64 bits has no member past them
pub has_below : (w i : ℕ) → w < 2 ^ 64 → Has w i → i < 64
has_below w i l h = ⊎_elim (λ k. k) (λ k. absurd (both_ways (bit w i) (bit_above w 64 i l k) h)) (cases_lt i 64)

-- a set that is not empty has a member
pub member : (w : ℕ) → w < 2 ^ 64 → 0 < w → (i : ℕ) × Has w i
member w l some = (count_trailing_zeros 64 w, (trailing_lowest 64 w some l).1)

pub empty : (w : ℕ) → w < 2 ^ 64 → ((i : ℕ) → Has w i → ⊥) → w ≡ 0
empty w l none = ⊎_elim (λ (k : w < 1). omega arith) (λ (k : 1 ≤ w). let m = member w l (omega arith) in absurd (none m.0 m.1)) (cases_lt w 1)

-- the complement in k bits
bit_complement : (k b c i : ℕ) → b + c + 1 ≡ 2 ^ k → i < k → bit c i ≡ not (bit b i)
bit_complement zero b c i e h = absurd (omega arith)
bit_complement (suc k) b c zero e h =
    let p = pow-add 2 1 k in
    let q : 2 ^ suc k ≡ 2 ^ (1 + k) = ap (λ (x : ℕ). 2 ^ x) (omega arith) in
    bit_low c
    ∙ ⊎_elim
    (λ (z : b % 2 ≡ 0). let o : c % 2 ≡ 1 = omega arith in ap (λ (x : ℕ). eqb x 1) o ∙ sym (ap (λ (x : ℕ). not (eqb x 1)) z))
    (λ (z : b % 2 ≡ 1). let o : c % 2 ≡ 0 = omega arith in ap (λ (x : ℕ). eqb x 1) o ∙ sym (ap (λ (x : ℕ). not (eqb x 1)) z))
    (two b)
    ∙ sym (ap not (bit_low b))
bit_complement (suc k) b c (suc i) e h =
    let p = pow-add 2 1 k in
    let q : 2 ^ suc k ≡ 2 ^ (1 + k) = ap (λ (x : ℕ). 2 ^ x) (omega arith) in
    sym (bit_up c i) ∙ bit_complement k (b / 2) (c / 2) i (omega arith) (omega arith) ∙ ap not (bit_up b i)

not_parts : (x : Bool) → not x ≡ true → x ≡ true → ⊥
not_parts true h k = both_ways true (sym h) k
not_parts false h k = both_ways false refl k

-- the members of b that a lacks
pub has_without : (a b i : ℕ) → a < 2 ^ 64 → Has (bit_and b (18446744073709551615 - a)) i → Has b i × (Has a i → ⊥)
has_without a b i l h =
    let both = (has_and b (18446744073709551615 - a) i).0 h in
    let low = has_below (18446744073709551615 - a) i (omega arith) both.1 in
    (both.0, not_parts (bit a i) (sym (bit_complement 64 a (18446744073709551615 - a) i (omega arith) low) ∙ both.1))

pub without_has : (a b i : ℕ) → a < 2 ^ 64 → b < 2 ^ 64 → Has b i → Has a i ⊎ Has (bit_and b (18446744073709551615 - a)) i
without_has a b i l m h =
    let low = has_below b i m h in
    ⊎_elim inl
    (λ (k : bit a i ≡ false). inr ((has_and b (18446744073709551615 - a) i).1 (h, bit_complement 64 a (18446744073709551615 - a) i (omega arith) low ∙ ap not k)))
    (cases_Bool (bit a i))

-- w & (w - 1) is w without its lowest bit
odd_step : (w : ℕ) → w % 2 ≡ 1 → bit_and w (w - 1) ≡ w / 2 * 2
odd_step w o =
    let half : (w - 1) / 2 ≡ w / 2 = omega arith in
    let low : (w - 1) % 2 ≡ 0 = omega arith in
    let step = and_step w (w - 1) in
    let same = ap (λ (z : ℕ). bit_and (w / 2) z) half ∙ and_self (w / 2) in
    omega arith

even_step : (w : ℕ) → 0 < w → w % 2 ≡ 0 → bit_and w (w - 1) ≡ bit_and (w / 2) (w / 2 - 1) * 2
even_step w some z =
    let half : (w - 1) / 2 ≡ w / 2 - 1 = omega arith in
    let step = and_step w (w - 1) in
    let same = ap (λ (z : ℕ). bit_and (w / 2) z) half in
    omega arith

low_set : (w : ℕ) → bit w 0 ≡ true → w % 2 ≡ 1
low_set w h = eqb-true (w % 2) 1 (sym (bit_low w) ∙ h)

low_clear : (w : ℕ) → bit w 0 ≡ false → w % 2 ≡ 0
low_clear w h = ⊎_elim (λ z. z) (λ o. absurd (both_ways (bit w 0) h (bit_low w ∙ ap (λ (x : ℕ). eqb x 1) o))) (two w)

even_bit : (x : ℕ) → bit (x * 2) 0 ≡ false
even_bit x = bit_low (x * 2) ∙ ap (λ (z : ℕ). eqb z 1) (let z : x * 2 % 2 ≡ 0 = omega arith in z)

half_bit : (x i : ℕ) → bit (x * 2) (suc i) ≡ bit x i
half_bit x i = sym (bit_up (x * 2) i) ∙ ap (λ (z : ℕ). bit z i) (let z : x * 2 / 2 ≡ x = omega arith in z)

pub some_bit : (w i : ℕ) → bit w i ≡ true → 0 < w
some_bit zero i h = absurd (has_zero i h)
some_bit (suc w) i h = omega arith

pub bit_dropped : (i w j : ℕ) → LowestBit w 0 (Some i) → bit (bit_and w (w - 1)) j ≡ cond (eqb i j) false (bit w j)
bit_dropped zero w zero h = ap (λ (z : ℕ). bit z 0) (odd_step w (low_set w h.1)) ∙ even_bit (w / 2)
bit_dropped zero w (suc j) h =
    ap (λ (z : ℕ). bit z (suc j)) (odd_step w (low_set w h.1)) ∙ half_bit (w / 2) j ∙ bit_up w j
    ∙ sym (ap (λ (z : Bool). cond z false (bit w (suc j))) (ne_eqb 0 (suc j) (omega arith)))
bit_dropped (suc i) w zero h =
    let none = h.2 0 (omega arith) (omega arith) in
    ap (λ (z : ℕ). bit z 0) (even_step w (some_bit w (suc i) h.1) (low_clear w none)) ∙ even_bit (bit_and (w / 2) (w / 2 - 1))
    ∙ sym (ap (λ (z : Bool). cond z false (bit w 0)) (ne_eqb (suc i) 0 (omega arith)) ∙ none)
bit_dropped (suc i) w (suc j) h =
    let none = h.2 0 (omega arith) (omega arith) in
    let half : LowestBit (w / 2) 0 (Some i) = (omega arith, bit_up w i ∙ h.1, λ k _ l. bit_up w k ∙ h.2 (suc k) (omega arith) (omega arith)) in
    ap (λ (z : ℕ). bit z (suc j)) (even_step w (some_bit w (suc i) h.1) (low_clear w none))
    ∙ half_bit (bit_and (w / 2) (w / 2 - 1)) j
    ∙ bit_dropped i (w / 2) j half
    ∙ ap (λ (z : Bool). cond (eqb i j) false z) (bit_up w j)
    ∙ ap (λ (z : Bool). cond z false (bit w (suc j))) same
  where
    same : eqb i j ≡ eqb (suc i) (suc j)
    same = ⊎_elim (λ (e : i ≡ j). eq-eqb i j e ∙ sym (eq-eqb (suc i) (suc j) (ap suc e))) (λ (n : i ≡ j → ⊥). ne_eqb i j n ∙ sym (ne_eqb (suc i) (suc j) (λ e. n (omega arith)))) (cases_eq i j)
