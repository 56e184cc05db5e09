-- The laws of bits.
use Rattle.std.proofs.Common.{◌≡◌, ℕ, zero, suc, ◌+◌, ◌-◌, ◌*◌, ◌/◌, ◌%◌, ◌^◌, ◌<◌, ◌≤◌, Bool, true, false, cond, not, ◌&&◌, ◌||◌, eqb, ◌⊎◌, Some, None, sym, refl, ap, ◌∙◌, subst, inl, inr, ⊎_elim, one-mul, div-one, add-one, one-add, arith}
use native.Mathlib.Nat.{zero-div, div-eq_of_lt}
use lib.Bits.{bit_and, bit_or, bit_xor, shifted_even}
use lib.Count.{count_trailing_zeros, under}
use Rattle.std.proofs.lemmas.Nat.{shl-shr, shr-shr, and_shr, and_mod, or_shr, or_mod, xor_shr, xor_mod, pow_below, pow-add, shr_below, div-add-mod'}
use Rattle.std.proofs.lemmas.Bool.{cases_eq, cases_lt, eq-eqb, ne_eqb}
use Rattle.bits.specs.Bits.{bit, LowestBit}

pub two : (x : ℕ) → (x % 2 ≡ 0) ⊎ (x % 2 ≡ 1)
two x = ⊎_elim (λ (l : x % 2 < 1). inl (omega arith)) (λ (l : 1 ≤ x % 2). inr (omega arith)) (cases_lt (x % 2) 1)

-- a digit of the result from the digits of the operands, by a table of the four cases
digit : (f : ℕ → ℕ → ℕ) (g : Bool → Bool → Bool) (x y : ℕ)
    → eqb (f 0 0) 1 ≡ g false false → eqb (f 0 1) 1 ≡ g false true → eqb (f 1 0) 1 ≡ g true false → eqb (f 1 1) 1 ≡ g true true
    → eqb (f (x % 2) (y % 2)) 1 ≡ g (eqb (x % 2) 1) (eqb (y % 2) 1)
digit f g x y a b c d =
    ⊎_elim
    (λ (p : x % 2 ≡ 0). ⊎_elim (λ (q : y % 2 ≡ 0). rw (p, q) a) (λ (q : y % 2 ≡ 1). rw (p, q) b) (two y))
    (λ (p : x % 2 ≡ 1). ⊎_elim (λ (q : y % 2 ≡ 0). rw (p, q) c) (λ (q : y % 2 ≡ 1). rw (p, q) d) (two y))
    (two x)

pub bit-or : (a b i : ℕ) → bit (bit_or a b) i ≡ (bit a i || bit b i)
unfolding bit
bit-or a b i =
    ap (λ (z : ℕ). eqb (z % 2) 1) (or_shr a b i) ∙ ap (λ (z : ℕ). eqb z 1) (or_mod (a / 2 ^ i) (b / 2 ^ i) 1)
    ∙ digit bit_or (λ x y. x || y) (a / 2 ^ i) (b / 2 ^ i) refl refl refl refl

pub bit-and : (a b i : ℕ) → bit (bit_and a b) i ≡ (bit a i && bit b i)
unfolding bit
bit-and a b i =
    ap (λ (z : ℕ). eqb (z % 2) 1) (and_shr a b i) ∙ ap (λ (z : ℕ). eqb z 1) (and_mod (a / 2 ^ i) (b / 2 ^ i) 1)
    ∙ digit bit_and (λ x y. x && y) (a / 2 ^ i) (b / 2 ^ i) refl refl refl refl

xor : Bool → Bool → Bool
xor true y = not y
xor false y = y

bit-xor : (a b i : ℕ) → bit (bit_xor a b) i ≡ xor (bit a i) (bit b i)
unfolding bit xor
bit-xor a b i =
    ap (λ (z : ℕ). eqb (z % 2) 1) (xor_shr a b i) ∙ ap (λ (z : ℕ). eqb z 1) (xor_mod (a / 2 ^ i) (b / 2 ^ i) 1)
    ∙ digit bit_xor xor (a / 2 ^ i) (b / 2 ^ i) refl refl refl refl

pub bit_zero : (i : ℕ) → bit 0 i ≡ false
unfolding bit
bit_zero i = ap (λ (z : ℕ). eqb (z % 2) 1) (zero-div (2 ^ i))

pub bit-pow : (k i : ℕ) → bit (2 ^ k) i ≡ eqb k i
unfolding bit
bit-pow k i =
    ⊎_elim
    (λ (e : k ≡ i).
    let d : 2 ^ k / 2 ^ k ≡ 1 = ap (λ (z : ℕ). z / 2 ^ k) (sym (one-mul (2 ^ k))) ∙ shl-shr 1 k in
    let here : eqb (2 ^ k / 2 ^ k % 2) 1 ≡ true = ap (λ (z : ℕ). eqb (z % 2) 1) d in
    subst (λ (z : ℕ). eqb (2 ^ k / 2 ^ z % 2) 1 ≡ true) e here ∙ sym (eq-eqb k i e))
    (λ (ne : k ≡ i → ⊥).
    ⊎_elim
    (λ (l : k < i). ap (λ (z : ℕ). eqb (z % 2) 1) (div-eq_of_lt (pow_below k i l)))
    (λ (l : i ≤ k).
    let d : ℕ = k - i - 1 in
    let parts : 2 ^ k ≡ 2 ^ suc d * 2 ^ i = (let is : k ≡ suc d + i = omega arith in ap (λ (z : ℕ). 2 ^ z) is ∙ pow-add 2 (suc d) i) in
    let quot : 2 ^ k / 2 ^ i ≡ 2 ^ suc d = ap (λ (z : ℕ). z / 2 ^ i) parts ∙ shl-shr (2 ^ suc d) i in
    ap (λ (z : ℕ). eqb (z % 2) 1) (quot ∙ sym (one-mul (2 ^ suc d))) ∙ ap (λ (z : ℕ). eqb z 1) (shifted_even 1 d))
    (cases_lt k i)
    ∙ sym (ne_eqb k i ne))
    (cases_eq k i)

-- no bit at or above the length
pub bit_above : (w k i : ℕ) → w < 2 ^ k → k ≤ i → bit w i ≡ false
unfolding bit
bit_above w k i l h =
    let below : w < 2 ^ i = ⊎_elim (λ (e : k < i). let p = pow_below k i e in omega arith) (λ (e : i ≤ k). subst (λ (z : ℕ). w < 2 ^ z) (let q : k ≡ i = omega arith in q) l) (cases_lt k i) in
    ap (λ (z : ℕ). eqb (z % 2) 1) (div-eq_of_lt below)

-- a word shifted down
pub bit-shr : (w k i : ℕ) → bit (w / 2 ^ k) i ≡ bit w (k + i)
unfolding bit
bit-shr w k i = ap (λ (z : ℕ). eqb (z % 2) 1) (shr-shr w k i)

or_cond : (x y : Bool) → (x || y) ≡ cond y true x
or_cond true true = refl
or_cond true false = refl
or_cond false true = refl
or_cond false false = refl

pub bit_marked : (w k i : ℕ) → bit (bit_or w (2 ^ k)) i ≡ cond (eqb k i) true (bit w i)
bit_marked w k i = bit-or w (2 ^ k) i ∙ ap (λ (z : Bool). bit w i || z) (bit-pow k i) ∙ or_cond (bit w i) (eqb k i)

or_xor : (x y : Bool) → xor (x || y) y ≡ cond y false x
unfolding xor
or_xor true true = refl
or_xor true false = refl
or_xor false true = refl
or_xor false false = refl

pub bit_cleared : (w k i : ℕ) → bit (bit_xor (bit_or w (2 ^ k)) (2 ^ k)) i ≡ cond (eqb k i) false (bit w i)
bit_cleared w k i =
    bit-xor (bit_or w (2 ^ k)) (2 ^ k) i
    ∙ ap (λ (z : Bool). xor z (bit (2 ^ k) i)) (bit-or w (2 ^ k) i)
    ∙ ap (λ (z : Bool). xor (bit w i || z) z) (bit-pow k i)
    ∙ or_xor (bit w i) (eqb k i)

-- the lowest bit, and the bits above it
pub bit_low : (w : ℕ) → bit w 0 ≡ eqb (w % 2) 1
unfolding bit
bit_low w = ap (λ (z : ℕ). eqb (z % 2) 1) (div-one w)

pub bit_up : (w i : ℕ) → bit (w / 2) i ≡ bit w (suc i)
bit_up w i = bit-shr w 1 i ∙ ap (bit w) (one-add i)

below : (w t : ℕ) → w % 2 ≡ 0 → ((i : ℕ) → 0 ≤ i → i < t → bit (w / 2) i ≡ false) → (i : ℕ) → 0 ≤ i → i < suc t → bit w i ≡ false
below w t e h zero l k = bit_low w ∙ ap (λ (z : ℕ). eqb z 1) e
below w t e h (suc i) l k = sym (bit_up w i) ∙ h i (omega arith) (omega arith)

-- the trailing zeros of a word end at its lowest set bit
pub trailing_lowest : (k w : ℕ) → 0 < w → w < 2 ^ k → LowestBit w 0 (Some (count_trailing_zeros k w))
unfolding count_trailing_zeros
trailing_lowest zero w some l = absurd (omega arith)
trailing_lowest (suc k) w some l =
    let t : ℕ = count_trailing_zeros k (w / 2) in
    ⊎_elim
    (λ (e : w % 2 ≡ 0).
    let half : 0 < w / 2 = omega (arith, div-add-mod' w 2) in
    let short : w / 2 < 2 ^ k = shr_below w k 1 (subst (λ (z : ℕ). w < 2 ^ z) (sym (add-one k)) l) in
    let rest = trailing_lowest k (w / 2) half short in
    let is : under (w % 2) t ≡ suc t = ap (λ (z : ℕ). under z t) e in
    subst (λ (z : ℕ). LowestBit w 0 (Some z)) (sym is)
    (omega arith, sym (bit_up w t) ∙ rest.1, below w t e rest.2))
    (λ (e : w % 2 ≡ 1).
    let is : under (w % 2) t ≡ 0 = ap (λ (z : ℕ). under z t) e in
    subst (λ (z : ℕ). LowestBit w 0 (Some z)) (sym is)
    (omega arith, bit_low w ∙ ap (λ (z : ℕ). eqb z 1) e, λ i _ h. absurd (omega arith)))
    (two w)

-- the lowest set bit of a word that is shifted down
pub lowest_shifted : (w b j : ℕ) → LowestBit (w / 2 ^ b) 0 (Some j) → LowestBit w b (Some (b + j))
lowest_shifted w b j h = (
  omega arith,
  sym (bit-shr w b j) ∙ h.1,
  λ i l k. let is : i ≡ b + (i - b) = omega arith in ap (bit w) is ∙ sym (bit-shr w b (i - b)) ∙ h.2 (i - b) (omega arith) (omega arith),
)

pub lowest_none : (w b : ℕ) → w / 2 ^ b ≡ 0 → LowestBit w b None
lowest_none w b e i l =
    let is : i ≡ b + (i - b) = omega arith in
    ap (bit w) is ∙ sym (bit-shr w b (i - b)) ∙ ap (λ (z : ℕ). bit z (i - b)) e ∙ bit_zero (i - b)
