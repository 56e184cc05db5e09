-- Tables of refusals.
--     first rows   the number of the first row that applies, or none
-- A row is a refusal number and whether it applies; the rows stand in the order in which they are checked.
use Rattle.std.specs.Prelude.{ℕ, Bool, cond, List, [], ◌∷◌, Some, None, Option}

abbrev pub first : List (ℕ × Bool) → Option ℕ
first [] = None
first (row ∷ rows) = cond row.1 (Some row.0) (first rows)
