-- What marking does to the scratch words: n words of states seen, and then n words of states waiting.
--     Small S                   each word of S has 64 bits
--     Grown S P S' P' Add       from seen S and waiting P to S' and P', the pairs of Add being marked
--     Grew n Z Z' Add           the same, from scratch words Z to Z'
use Rattle.std.specs.Prelude.{ℕ, ◌+◌, ◌^◌, ◌<◌, ◌≤◌, ◌⊎◌, List, take, drop, sum, slice_index}
use Rattle.walk.specs.Moves.{In}

abbrev pub Small : List ℕ → Type 0
Small S = (v : ℕ) → slice_index S v < 2 ^ 64

-- what is new is seen and waits; as numbers, the words seen grow by as much as those waiting
pub record Grown (S P S' P' : List ℕ) (Add : ℕ → ℕ → Type 0) : Type 0 where
  pub stays : (v s : ℕ) → In S v s → In S' v s
  pub adds : (v s : ℕ) → Add v s → In S' v s
  pub only : (v s : ℕ) → In S' v s → In S v s ⊎ Add v s
  pub waits : (v s : ℕ) → In P v s → In P' v s
  pub fresh : (v s : ℕ) → In S' v s → In S v s ⊎ In P' v s
  pub within : (v s : ℕ) → In P' v s → In P v s ⊎ In S' v s
  pub less : sum S + sum P' ≤ sum S' + sum P
  pub small : Small S → Small S'

abbrev pub Grew : ℕ → List ℕ → List ℕ → (ℕ → ℕ → Type 0) → Type 0
Grew n Z Z' Add = Grown (take n Z) (drop n Z) (take n Z') (drop n Z') Add
