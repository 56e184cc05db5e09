-- The front of a list, written over the front of another.
use Rattle.std.proofs.Common.{◌≡◌, ℕ, ◌<◌, ◌≤◌, List, ◌++◌, length, get_or, take, drop, arith}
use Rattle.std.proofs.lemmas.Grind.{common_steps}

pub length_front : (h : ℕ) (xs : List ℕ) → h ≤ length xs → length (take h xs) ≡ h
length_front h xs l = grind (arith, common_steps)

pub front_is : (h : ℕ) (xs : List ℕ) (i : ℕ) → i < h → get_or (take h xs) i 0 ≡ get_or xs i 0
front_is h xs i l = grind (arith, common_steps)

pub copied_length : (h : ℕ) (ys out : List ℕ) → length ys ≡ h → h ≤ length out → length (ys ++ drop h out) ≡ length out
copied_length h ys out e l = grind (arith, common_steps)

pub copied_in : (h : ℕ) (ys out : List ℕ) (i : ℕ) → length ys ≡ h → i < h → get_or (ys ++ drop h out) i 0 ≡ get_or ys i 0
copied_in h ys out i e l = grind (arith, common_steps)

pub copied_past : (h : ℕ) (ys out : List ℕ) (i : ℕ) → length ys ≡ h → h ≤ length out → h ≤ i → get_or (ys ++ drop h out) i 0 ≡ get_or out i 0
copied_past h ys out i e l p = grind (arith, common_steps)
