-- Rows of bits.
use Rattle.std.proofs.Common.{◌≡◌, ℕ, ◌+◌, ◌-◌, ◌*◌, ◌/◌, ◌%◌, ◌^◌, ◌<◌, ◌≤◌, Bool, true, false, ◌≢◌, List, length, get_or, take, drop, ◌++◌, sym, refl, ap, ◌∙◌, ⊎_elim, arith}
use lib.Bits.{bit_and, bit_or}
use Rattle.std.proofs.lemmas.Grind.{common_steps}
use Rattle.std.proofs.lemmas.Nat.{div_below, div-mul-add, mod-mul-add}
use Rattle.std.proofs.lemmas.Bool.{both_ways, cases_lt}
use Rattle.std.specs.Bool.{MatchBool, Decides}
use Rattle.std.specs.List.{AllWithin, HoldsAt}
use Rattle.bits.specs.Bits.{bit}
use Rattle.bits.specs.Rows.{row_bit, Narrowed, Widened, SomeBit}
use Rattle.bits.proofs.Laws.{bit-and, bit-or, bit_zero}
use Rattle.bits.proofs.Sets.{has_below, member}

-- a row of words is changed by those of another
pub record Changed (f : ℕ → ℕ → ℕ) (old new : List ℕ) (row other count : ℕ) : Type 0 where
  pub words : (k : ℕ) → k < count → get_or new (row + k) 0 ≡ f (get_or old (row + k) 0) (get_or old (other + k) 0)
  pub rest : (k : ℕ) → (row ≤ k → k < row + count → ⊥) → get_or new k 0 ≡ get_or old k 0

-- reads of the parts
read_front : (ws : List ℕ) (row mask count k : ℕ) → row + count ≤ mask → mask ≤ length ws → k < count → get_or (take count (drop row (take mask ws))) k 0 ≡ get_or ws (row + k) 0
read_front ws row mask count k a l h = grind (arith, common_steps)

read_back : (ws : List ℕ) (mask count k : ℕ) → mask + count ≤ length ws → k < count → get_or (take count (drop mask ws)) k 0 ≡ get_or ws (mask + k) 0
read_back ws mask count k l h = grind (arith, common_steps)

pub length_front : (ws : List ℕ) (row mask count : ℕ) → row + count ≤ mask → mask ≤ length ws → length (take count (drop row (take mask ws))) ≡ count
length_front ws row mask count a l = grind (arith, common_steps)

pub length_back : (ws : List ℕ) (mask count : ℕ) → mask + count ≤ length ws → length (take count (drop mask ws)) ≡ count
length_back ws mask count l = grind (arith, common_steps)

-- the front of a list is written from its back
front_below : (ws vs zs ys : List ℕ) (row mask k : ℕ) → row ≤ mask → mask ≤ length ws → k < row → get_or (take row (take mask ws) ++ (vs ++ zs) ++ ys) k 0 ≡ get_or ws k 0
front_below ws vs zs ys row mask k a l h = grind (arith, common_steps)

front_in : (ws vs zs ys : List ℕ) (row mask k : ℕ) → row ≤ mask → mask ≤ length ws → k < length vs → get_or (take row (take mask ws) ++ (vs ++ zs) ++ ys) (row + k) 0 ≡ get_or vs k 0
front_in ws vs zs ys row mask k a l h = grind (arith, common_steps)

past : (xs ys zs : List ℕ) (k : ℕ) → length xs + length ys ≤ k → get_or (xs ++ ys ++ zs) k 0 ≡ get_or zs (k - (length xs + length ys)) 0
past xs ys zs k h = grind (arith, common_steps)

front_long : (ws vs : List ℕ) (row mask count : ℕ) → row + count ≤ mask → mask ≤ length ws → length vs ≡ count
    → length (take row (take mask ws)) + length (vs ++ drop count (drop row (take mask ws))) ≡ mask
front_long ws vs row mask count a l e = grind (arith, common_steps)

dropped : (ws : List ℕ) (mask k : ℕ) → mask ≤ k → get_or (drop mask ws) (k - mask) 0 ≡ get_or ws k 0
dropped ws mask k h = grind (arith, common_steps)

front_above : (ws vs : List ℕ) (row mask count k : ℕ) → row + count ≤ mask → mask ≤ length ws → length vs ≡ count → row + count ≤ k
    → get_or (take row (take mask ws) ++ (vs ++ drop count (drop row (take mask ws))) ++ drop mask ws) k 0 ≡ get_or ws k 0
front_above ws vs row mask count k a l e h =
    let long = front_long ws vs row mask count a l e in
    ⊎_elim (λ (b : k < mask). grind (arith, common_steps))
    (λ (b : mask ≤ k).
    past (take row (take mask ws)) (vs ++ drop count (drop row (take mask ws))) (drop mask ws) k (omega (arith, long))
    ∙ ap (λ (n : ℕ). get_or (drop mask ws) (k - n) 0) long
    ∙ dropped ws mask k b)
    (cases_lt k mask)

pub changed_front : (f : ℕ → ℕ → ℕ) (ws vs : List ℕ) (row mask count : ℕ) → row + count ≤ mask → mask + count ≤ length ws → length vs ≡ count
    → ((k : ℕ) → k < count → get_or vs k 0 ≡ f (get_or (take count (drop row (take mask ws))) k 0) (get_or (take count (drop mask ws)) k 0))
    → Changed f ws (take row (take mask ws) ++ (vs ++ drop count (drop row (take mask ws))) ++ drop mask ws) row mask count
changed_front f ws vs row mask count apart room long each = record {
  words = λ k l. front_in ws vs _ _ row mask k (omega arith) (omega arith) (omega arith) ∙ each k l
      ∙ ap (λ (x : ℕ). f x (get_or (take count (drop mask ws)) k 0)) (read_front ws row mask count k apart (omega arith) l)
      ∙ ap (f (get_or ws (row + k) 0)) (read_back ws mask count k room l);
  rest = λ k n. ⊎_elim
      (λ (b : k < row). front_below ws vs _ _ row mask k (omega arith) (omega arith) b)
      (λ (b : row ≤ k). front_above ws vs row mask count k apart (omega arith) long (⊎_elim (λ (l : k < row + count). absurd (n b l)) (λ l. l) (cases_lt k (row + count))))
      (cases_lt k row);
}

-- the back of a list is written from its front
back_below : (ws zs : List ℕ) (mask k : ℕ) → mask ≤ length ws → k < mask → get_or (take mask ws ++ zs) k 0 ≡ get_or ws k 0
back_below ws zs mask k l h = grind (arith, common_steps)

back_in : (ws vs zs : List ℕ) (mask k : ℕ) → mask ≤ length ws → k < length vs → get_or (take mask ws ++ (vs ++ zs)) (mask + k) 0 ≡ get_or vs k 0
back_in ws vs zs mask k l h = grind (arith, common_steps)

back_above : (ws vs : List ℕ) (mask count k : ℕ) → mask + count ≤ length ws → length vs ≡ count → mask + count ≤ k
    → get_or (take mask ws ++ (vs ++ drop count (drop mask ws))) k 0 ≡ get_or ws k 0
back_above ws vs mask count k l e h = grind (arith, common_steps)

pub changed_back : (f : ℕ → ℕ → ℕ) (ws vs : List ℕ) (row mask count : ℕ) → row + count ≤ mask → mask + count ≤ length ws → length vs ≡ count
    → ((k : ℕ) → k < count → get_or vs k 0 ≡ f (get_or (take count (drop mask ws)) k 0) (get_or (take count (drop row (take mask ws))) k 0))
    → Changed f ws (take mask ws ++ (vs ++ drop count (drop mask ws))) mask row count
changed_back f ws vs row mask count apart room long each = record {
  words = λ k l. back_in ws vs _ mask k (omega arith) (omega arith) ∙ each k l
      ∙ ap (λ (x : ℕ). f x (get_or (take count (drop row (take mask ws))) k 0)) (read_back ws mask count k room l)
      ∙ ap (f (get_or ws (mask + k) 0)) (read_front ws row mask count k apart (omega arith) l);
  rest = λ k n. ⊎_elim
      (λ (b : k < mask). back_below ws _ mask k (omega arith) b)
      (λ (b : mask ≤ k). back_above ws vs mask count k room long (⊎_elim (λ (l : k < mask + count). absurd (n b l)) (λ l. l) (cases_lt k (mask + count))))
      (cases_lt k mask);
}

pub narrowed_from : (ws vs : List ℕ) (row mask count : ℕ) → Changed bit_and ws vs row mask count → Narrowed ws vs row mask count
narrowed_from ws vs row mask count c = record {
  bits = λ i l. ap (λ (z : ℕ). bit z (i % 64)) (c.words (i / 64) (div_below i 64 count (omega arith) l)) ∙ bit-and (get_or ws (row + i / 64) 0) (get_or ws (mask + i / 64) 0) (i % 64);
  rest = c.rest;
}

pub widened_from : (ws vs : List ℕ) (row mask count : ℕ) → Changed bit_or ws vs mask row count → Widened ws vs row mask count
widened_from ws vs row mask count c = record {
  bits = λ i l. ap (λ (z : ℕ). bit z (i % 64)) (c.words (i / 64) (div_below i 64 count (omega arith) l)) ∙ bit-or (get_or ws (mask + i / 64) 0) (get_or ws (row + i / 64) 0) (i % 64);
  rest = c.rest;
}

-- a word of a row that is not 0 has a bit
some_bit_from : (ws : List ℕ) (start count k : ℕ) → start ≤ k → k < start + count → get_or ws k 0 < 2 ^ 64 → 0 < get_or ws k 0 → SomeBit ws start count
some_bit_from ws start count k a b l some =
    let m = member (get_or ws k 0) l some in
    let low = has_below (get_or ws k 0) m.0 l m.1 in
    let v = (k - start) * 64 + m.0 in
    let word : start + v / 64 ≡ k = (let d = div-mul-add (k - start) 64 m.0 low in omega arith) in
    let place : v % 64 ≡ m.0 = mod-mul-add (k - start) 64 m.0 low in
    (v, omega arith, ap (λ (z : ℕ). bit (get_or ws z 0) (v % 64)) word ∙ ap (bit (get_or ws k 0)) place ∙ m.1)

no_bit_from : (ws : List ℕ) (start count : ℕ) → ((k : ℕ) → start ≤ k → k < start + count → get_or ws k 0 ≡ 0) → SomeBit ws start count → ⊥
no_bit_from ws start count zeros s =
    let word = div_below s.0 64 count (omega arith) s.1 in
    both_ways (row_bit ws start s.0) (ap (λ (z : ℕ). bit z (s.0 % 64)) (zeros (start + s.0 / 64) (omega arith) (omega arith)) ∙ bit_zero (s.0 % 64)) s.2

-- some word of a part is not 0 just if some bit of the row is set
row_read : (ws : List ℕ) (start count k : ℕ) → start + count ≤ length ws → k < count → get_or (take (start + count - start) (drop start ws)) k 0 ≡ get_or ws (start + k) 0
row_read ws start count k l h = grind (arith, common_steps)

row_long : (ws : List ℕ) (start count : ℕ) → start + count ≤ length ws → length (take (start + count - start) (drop start ws)) ≡ count
row_long ws start count l = grind (arith, common_steps)

pub decides_some : (ws : List ℕ) (start count : ℕ) (r : Bool) → start + count ≤ length ws → ((k : ℕ) → get_or ws k 0 < 2 ^ 64)
    → MatchBool r ((k : ℕ) × (k < length (take (start + count - start) (drop start ws))) × HoldsAt (λ x. x ≢ 0) (take (start + count - start) (drop start ws)) k)
    (AllWithin (λ x. x ≡ 0) (take (start + count - start) (drop start ws)) 0 (length (take (start + count - start) (drop start ws)))) → Decides r (SomeBit ws start count)
decides_some ws start count true l fits h =
    let low : h.0 < count = omega (arith, h.1, row_long ws start count l) in
    let read = row_read ws start count h.0 l low in
    ((λ _. some_bit_from ws start count (start + h.0) (omega arith) (omega arith) (fits (start + h.0)) (let n = h.2 0 in omega (arith, n, read))), λ _. refl)
decides_some ws start count false l fits h = (
  (λ e. absurd (both_ways false refl e)),
  λ s. absurd (no_bit_from ws start count
      (λ k a b.
      let i : start + (k - start) ≡ k = omega arith in
      let read = row_read ws start count (k - start) l (omega arith) in
      ap (λ (z : ℕ). get_or ws z 0) (sym i) ∙ sym read ∙ h (k - start) 0 (omega arith) (omega (arith, row_long ws start count l)))
      s),
)
