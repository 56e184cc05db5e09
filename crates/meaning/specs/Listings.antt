-- A listing: the outcomes of the accepted next calls since a calibrate, the newest first, and what they say of the answers.
--     Outcome               an accepted next gives a tuple, or answers the end
--     given os              the tuples given, the newest first
--     Same h xs ys          the first h nodes are the same
--     Gives F h g o         what one next does, where F are the fitting tuples of h places and g were given, the newest first
--     Nexts F h os          each outcome of os came so after those before it
--     Among, Higher         a tuple is one of those given; it is higher than all of them
--     Listed A h g          the tuples of g are answers, rising, each once, and every other answer is higher than all of them
--     NextRight A h g o     o is an answer not given yet and the lowest such, or the end, and then all were given
--     Whole A h os          at each moment what was given is Listed, each outcome was right, no tuple came twice, and the end came exactly where all answers had been given before
use Rattle.std.specs.Prelude.{◌≡◌, ℕ, ◌<◌, ◌⊎◌, List, [], ◌∷◌, ◌++◌}
use Rattle.meaning.specs.Tuples.{node, Lower}

pub data Outcome : Type 0 where
  gave : List ℕ → Outcome
  ended : Outcome

abbrev pub given : List Outcome → List (List ℕ)
given [] = []
given (gave xs ∷ os) = xs ∷ given os
given (ended ∷ os) = given os

abbrev pub Same : ℕ → List ℕ → List ℕ → Type 0
Same h xs ys = (i : ℕ) → i < h → node xs i ≡ node ys i

-- above the newest, if there is one
abbrev pub AboveNewest : ℕ → List (List ℕ) → List ℕ → Type 0
AboveNewest h [] ys = Unit {0}
AboveNewest h (x ∷ g) ys = Lower h x ys

abbrev pub Gives : (List ℕ → Type 0) → ℕ → List (List ℕ) → Outcome → Type 0
Gives F h g (gave xs) = F xs × AboveNewest h g xs × ((ys : List ℕ) → F ys → AboveNewest h g ys → Lower h ys xs → ⊥)
Gives F h g ended = (ys : List ℕ) → F ys → AboveNewest h g ys → ⊥

abbrev pub Nexts : (List ℕ → Type 0) → ℕ → List Outcome → Type 0
Nexts F h [] = Unit {0}
Nexts F h (o ∷ os) = Gives F h (given os) o × Nexts F h os

-- ys is among g
abbrev pub Among : ℕ → List ℕ → List (List ℕ) → Type 0
Among h ys [] = ⊥
Among h ys (x ∷ g) = Same h x ys ⊎ Among h ys g

-- ys is higher than all of g
abbrev pub Higher : ℕ → List ℕ → List (List ℕ) → Type 0
Higher h ys [] = Unit {0}
Higher h ys (x ∷ g) = Lower h x ys × Higher h ys g

abbrev pub Rising : ℕ → List (List ℕ) → Type 0
Rising h [] = Unit {0}
Rising h (x ∷ g) = Higher h x g × Rising h g

abbrev pub All : (List ℕ → Type 0) → List (List ℕ) → Type 0
All A [] = Unit {0}
All A (x ∷ g) = A x × All A g

pub record Listed (A : List ℕ → Type 0) (h : ℕ) (g : List (List ℕ)) : Type 0 where
  pub answers : All A g
  pub rising : Rising h g
  pub others : (ys : List ℕ) → A ys → Among h ys g ⊎ Higher h ys g

abbrev pub NextRight : (List ℕ → Type 0) → ℕ → List (List ℕ) → Outcome → Type 0
NextRight A h g (gave xs) = A xs × Higher h xs g × ((ys : List ℕ) → A ys → (Among h ys g → ⊥) → Lower h ys xs → ⊥)
NextRight A h g ended = (ys : List ℕ) → A ys → Among h ys g

-- at each moment of the listing what was given is Listed, each outcome was right after those before it,
-- no tuple came twice, and the end was answered exactly where all answers had been given before it
pub record Whole (A : List ℕ → Type 0) (h : ℕ) (os : List Outcome) : Type 0 where
  pub moments : (later earlier : List Outcome) → os ≡ later ++ earlier → Listed A h (given earlier)
  pub outcomes : (later earlier : List Outcome) (o : Outcome) → os ≡ later ++ (o ∷ earlier) → NextRight A h (given earlier) o
  pub once : (later earlier : List Outcome) (xs : List ℕ) → os ≡ later ++ (gave xs ∷ earlier) → Among h xs (given earlier) → ⊥
  pub ends : (later earlier : List Outcome) (o : Outcome) → os ≡ later ++ (o ∷ earlier)
      → (o ≡ ended → (ys : List ℕ) → A ys → Among h ys (given earlier)) × (((ys : List ℕ) → A ys → Among h ys (given earlier)) → o ≡ ended)
