-- One step of the search for the order. seen has for each variable the first rank whose atom has it, if any yet.
use Rattle.std.specs.Prelude.{◌≡◌, ℕ, ◌<◌, ◌⊎◌, List, Option, None, Some, IsSome, slice_index_or}
use Rattle.meaning.specs.Shapes.{Atoms}
use Rattle.order.specs.declared.Step.{Step}

abbrev pub seen_at : List (Option ℕ) → ℕ → Option ℕ
seen_at seen v = slice_index_or seen v None

-- An atom that has no rank yet, and a variable that is seen.
abbrev pub Open : Atoms → List (Option ℕ) → List (Option ℕ) → ℕ → Type 0
Open q rank seen c = (slice_index_or rank c None ≡ None) × (IsSome (seen_at seen (q.first c)) ⊎ IsSome (seen_at seen (q.second c)))

-- The two variables of an atom are the shared and the fresh one of the step, and the first is seen, at the rank of its parent.
pub record Hangs (first second : ℕ) (s : Step) (seen : List (Option ℕ)) : Type 0 where
  pub joins : ((first ≡ s.shared) × (second ≡ s.fresh)) ⊎ ((first ≡ s.fresh) × (second ≡ s.shared))
  pub known : seen_at seen s.shared ≡ Some s.parent
  pub low : s.shared < 256
  pub second_low : s.fresh < 256
