-- An order of atoms, as the code writes it: place for place, by rank or by atom.
--     arranged steps rank   the order of those steps and ranks
--     ranks o               the order of the code's o
use Rattle.std.specs.Prelude.{ℕ, List, Option, None, slice_index_or, unwrap_or}
use Rattle.order.specs.declared.Order.{Order}
use Rattle.order.specs.declared.Step.{Step}

-- The atom of each rank, the rank of each atom (8: none yet), and of each rank its parent's rank, the variable that it shares with its parent, and its other variable.
pub record Ranks : Type 0 where
  pub at : ℕ → ℕ
  pub rank : ℕ → ℕ
  pub parent : ℕ → ℕ
  pub shared : ℕ → ℕ
  pub fresh : ℕ → ℕ

abbrev pub blank : Step
blank = record { atom = 0; parent = 0; shared = 0; fresh = 0 }

abbrev pub arranged : List Step → List (Option ℕ) → Ranks
arranged steps rank = record {
  at = λ i. (slice_index_or steps i blank).atom;
  rank = λ i. unwrap_or (slice_index_or rank i None) 8;
  parent = λ i. (slice_index_or steps i blank).parent;
  shared = λ i. (slice_index_or steps i blank).shared;
  fresh = λ i. (slice_index_or steps i blank).fresh;
}

abbrev pub ranks : Order → Ranks
ranks o = arranged o.steps o.rank
