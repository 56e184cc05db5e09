-- The two halves of the scratch words.
use Rattle.std.proofs.Common.{◌≡◌, ℕ, zero, suc, ◌+◌, ◌-◌, ◌^◌, ◌<◌, ◌≤◌, List, [], ◌∷◌, length, get_or, take, drop, set, replicate, sym, refl, ap, ◌∙◌, subst, ⊎_elim, arith, length-drop, length-take}
use lib.Bits.{bit_and, bit_or}
use Rattle.std.proofs.lemmas.List.{get_or-take, get_or-drop, take-set-le, drop-set-lt, drop-set-add, get_or-set_other, take-replicate, drop-replicate, get_or_past, get_or-replicate, length-replicate}
use Rattle.std.proofs.lemmas.Bool.{cases_lt}
use Rattle.bits.specs.Bits.{Has}
use Rattle.walk.specs.Marked.{Grown, Grew}
use Rattle.walk.specs.Walked.{Falls}
use Rattle.walk.proofs.Marking.{marked}

take_set_lt : (n : ℕ) (Z : List ℕ) (v y : ℕ) → v < n → take n (set Z v y) ≡ set (take n Z) v y
take_set_lt zero Z v y h = absurd (omega arith)
take_set_lt (suc n) [] v y h = refl
take_set_lt (suc n) (x ∷ Z) zero y h = refl
take_set_lt (suc n) (x ∷ Z) (suc v) y h = ap (λ (L : List ℕ). x ∷ L) (take_set_lt n Z v y (omega arith))

module _ (n : ℕ) (Z : List ℕ) (v : ℕ) (h : v < n) where
  -- a write to each half at v
  both_take : (y z : ℕ) → take n (set (set Z v y) (n + v) z) ≡ set (take n Z) v y
  both_take y z = take-set-le n (set Z v y) (n + v) z (omega arith) ∙ take_set_lt n Z v y h

  both_drop : (y z : ℕ) → drop n (set (set Z v y) (n + v) z) ≡ set (drop n Z) v z
  both_drop y z = drop-set-add n (set Z v y) v z ∙ ap (λ (L : List ℕ). set L v z) (drop-set-lt n Z v y h)

  high : (y : ℕ) → get_or (set Z v y) (n + v) 0 ≡ get_or (drop n Z) v 0
  high y = get_or-set_other Z v (n + v) y 0 (omega arith) ∙ sym (get_or-drop n Z v 0)

pub marked_both : (n : ℕ) (Z : List ℕ) (v m : ℕ) → v < n → length Z ≡ n + n → get_or Z v 0 < 2 ^ 64 → m < 2 ^ 64
    → Grew n Z (set (set Z v (bit_or (get_or Z v 0) (bit_and m (18446744073709551615 - get_or Z v 0)))) (n + v) (bit_or (get_or (set Z v (bit_or (get_or Z v 0) (bit_and m (18446744073709551615 - get_or Z v 0)))) (n + v) 0) (bit_and m (18446744073709551615 - get_or Z v 0))))
    (λ w s. (w ≡ v) × Has m s)
marked_both n Z v m h l f b =
    let x = bit_and m (18446744073709551615 - get_or Z v 0) in
    let A = λ (w s : ℕ). (w ≡ v) × Has m s in
    let ls : length (take n Z) ≡ n = simp length-take (omega arith) in
    let lp : length (drop n Z) ≡ n = simp length-drop (omega arith) in
    let e = get_or-take n Z v 0 h in
    let g = marked (take n Z) (drop n Z) v m (omega arith) (omega arith) (omega arith) b in
    let g₁ = subst (λ (a : ℕ). Grown (take n Z) (drop n Z) (set (take n Z) v (bit_or a (bit_and m (18446744073709551615 - a)))) (set (drop n Z) v (bit_or (get_or (drop n Z) v 0) (bit_and m (18446744073709551615 - a)))) A) e g in
    subst (λ (L : List ℕ). Grown (take n Z) (drop n Z) L (drop n (set (set Z v (bit_or (get_or Z v 0) x)) (n + v) (bit_or (get_or (set Z v (bit_or (get_or Z v 0) x)) (n + v) 0) x))) A)
    (sym (both_take n Z v h (bit_or (get_or Z v 0) x) (bit_or (get_or (set Z v (bit_or (get_or Z v 0) x)) (n + v) 0) x)))
    (subst (λ (L : List ℕ). Grown (take n Z) (drop n Z) (set (take n Z) v (bit_or (get_or Z v 0) x)) L A)
    (sym (both_drop n Z v h (bit_or (get_or Z v 0) x) (bit_or (get_or (set Z v (bit_or (get_or Z v 0) x)) (n + v) 0) x) ∙ ap (λ (y : ℕ). set (drop n Z) v (bit_or y x)) (high n Z v h (bit_or (get_or Z v 0) x))))
    g₁)

-- what a step marks, over the halves
pub halved : (n k : ℕ) → n ≡ k → (Z Z' : List ℕ) (v : ℕ) (B : ℕ → ℕ → ℕ → Type 0) → Grew k (set Z (n + v) 0) Z' (B (get_or Z (n + v) 0))
    → Grown (take n Z) (set (drop n Z) v 0) (take n Z') (drop n Z') (B (get_or (drop n Z) v 0))
halved n k e Z Z' v B g =
    let g₁ = subst (λ (m : ℕ). Grew m (set Z (n + v) 0) Z' (B (get_or Z (n + v) 0))) (sym e) g in
    let g₂ = subst (λ (L : List ℕ). Grown L (drop n (set Z (n + v) 0)) (take n Z') (drop n Z') (B (get_or Z (n + v) 0))) (take-set-le n Z (n + v) 0 (omega arith)) g₁ in
    let g₃ = subst (λ (L : List ℕ). Grown (take n Z) L (take n Z') (drop n Z') (B (get_or Z (n + v) 0))) (drop-set-add n Z v 0) g₂ in
    subst (λ (x : ℕ). Grown (take n Z) (set (drop n Z) v 0) (take n Z') (drop n Z') (B x)) (sym (get_or-drop n Z v 0)) g₃

zeroed : (X : List ℕ) (n : ℕ) → X ≡ replicate n 0 → (v : ℕ) → get_or X v 0 ≡ 0
zeroed X n e v = rw e (⊎_elim (λ l. get_or-replicate n v 0 0 l) (λ l. get_or_past (replicate n 0) v 0 (rw length-replicate l)) (cases_lt v n))

-- zeros have zeros in each half
pub halves_zero : (n N : ℕ) (Z : List ℕ) → N ≡ n + n → Z ≡ replicate N 0 → ((v : ℕ) → get_or (take n Z) v 0 ≡ 0) × ((v : ℕ) → get_or (drop n Z) v 0 ≡ 0)
halves_zero n N Z h e = (
  zeroed (take n Z) n (ap (take n) e ∙ take-replicate n N 0 (omega arith)),
  zeroed (drop n Z) (N - n) (ap (drop n) e ∙ drop-replicate n N 0),
)

pub half_length : (n : ℕ) (Z : List ℕ) → length Z ≡ n + n → (length (take n Z) ≡ n) × (length (drop n Z) ≡ n)
half_length n Z l = (simp length-take (omega arith), simp length-drop (omega arith))

-- what is 0 within a list is 0 past it too
pub blank : (X : List ℕ) → ((k : ℕ) → k < length X → get_or X k 0 ≡ 0) → (v : ℕ) → get_or X v 0 ≡ 0
blank X z v = ⊎_elim (λ l. z v l) (λ l. get_or_past X v 0 l) (cases_lt v (length X))

pub falls_then : (n : ℕ) (A B C : List ℕ) (d e f : ℕ) → Falls n A B d → Falls n B C e → f ≤ d + e → Falls n A C f
falls_then n A B C d e f p q h = omega arith
