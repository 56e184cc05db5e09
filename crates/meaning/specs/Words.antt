-- Words of labels, and the words that an expression stands for.
--     Symbol           what one step of an expression reads: a label, or any label
--     Matches n s a    the symbol s reads the label a of a graph with n labels
--     Regex            regular expressions over symbols
--     Lang n r w       w is a word of r, over the n labels of a graph
use Rattle.std.specs.Prelude.{◌≡◌, ℕ, ◌<◌, ◌⊎◌, List, [], ◌∷◌, ◌++◌}

pub data Symbol : Type 0 where
  label : ℕ → Symbol
  any : Symbol

abbrev pub Matches : ℕ → Symbol → ℕ → Type 0
Matches n (label c) a = a ≡ c
Matches n any a = a < n

pub data Regex : Type 0 where
  one : Symbol → Regex
  cat alt : Regex → Regex → Regex
  star plus opt : Regex → Regex

-- zero or more words of L, joined
pub data Star (L : List ℕ → Type 0) : List ℕ → Type 0 where
  none : {w : List ℕ} → w ≡ [] → Star L w
  more : {w : List ℕ} (u v : List ℕ) → w ≡ u ++ v → L u → Star L v → Star L w

abbrev pub Lang : ℕ → Regex → List ℕ → Type 0
Lang n (one s) w = (a : ℕ) × (w ≡ a ∷ []) × Matches n s a
Lang n (cat r s) w = (u : List ℕ) × (v : List ℕ) × (w ≡ u ++ v) × Lang n r u × Lang n s v
Lang n (alt r s) w = Lang n r w ⊎ Lang n s w
Lang n (star r) w = Star (Lang n r) w
Lang n (plus r) w = (u : List ℕ) × (v : List ℕ) × (w ≡ u ++ v) × Lang n r u × Star (Lang n r) v
Lang n (opt r) w = (w ≡ []) ⊎ Lang n r w
