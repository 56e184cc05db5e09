-- A first place from what the library says of `find` over a range, and of `position` in a list.
use Rattle.std.proofs.Common.{ℕ, ◌<◌, ◌≤◌, List, length, slice_index_or, Option, Some, None, ⊎_elim, arith}
use Rattle.std.specs.List.{AllWithin, HoldsAt}
use Rattle.std.proofs.lemmas.Bool.{cases_lt}
use Rattle.std.specs.Option.{MatchOption}
use Rattle.meaning.specs.Firsts.{FirstAt}

-- where no place below a will do, the first from a on is the first
pub first_from_range : (P Yes No : ℕ → Type 0) (a n : ℕ) (r : Option ℕ) → ((j : ℕ) → j < a → P j → ⊥)
    → ((i : ℕ) → a ≤ i → i < n → Yes i → P i) → ((i : ℕ) → a ≤ i → i < n → No i → P i → ⊥)
    → MatchOption r ((k : ℕ) → a ≤ k → k < n → No k) (λ i. (a ≤ i) × (i < n) × Yes i × ((k : ℕ) → a ≤ k → k < i → No k))
    → FirstAt P n r
first_from_range P Yes No a n None low met unmet h = λ j lt. ⊎_elim (λ (l : j < a). low j l) (λ (l : a ≤ j). unmet j l lt (h j l lt)) (cases_lt j a)
first_from_range P Yes No a n (Some i) low met unmet h = (
  h.1,
  met i h.0 h.1 h.2,
  λ j lt. ⊎_elim (λ (l : j < a). low j l) (λ (l : a ≤ j). unmet j l (omega (arith, h.1)) (h.3 j l lt)) (cases_lt j a),
)

-- the first item that meets a test stands at the first place that does
pub first_from_position : {B : Type 0} (P : ℕ → Type 0) (Yes No : B → Type 0) (xs : List B) (d : B) (r : Option ℕ)
    → ((i : ℕ) → i < length xs → Yes (slice_index_or xs i d) → P i) → ((i : ℕ) → i < length xs → No (slice_index_or xs i d) → P i → ⊥)
    → MatchOption r (AllWithin No xs 0 (length xs)) (λ i. (i < length xs) × HoldsAt Yes xs i × AllWithin No xs 0 i)
    → FirstAt P (length xs) r
first_from_position P Yes No xs d None met unmet h = λ j lt. unmet j lt (h j d (omega arith) lt)
first_from_position P Yes No xs d (Some i) met unmet h = (h.0, met i h.0 (h.1 d), λ j lt. unmet j (omega (arith, h.0)) (h.2 j d (omega arith) lt))
