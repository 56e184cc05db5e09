-- Tables of refusals, row by row.
use Rattle.std.proofs.Common.{◌≡◌, ℕ, Bool, true, false, List, [], ◌∷◌, ◌++◌, Some, None, Option, refl, ⊎_elim, arith}
use Rattle.std.proofs.lemmas.Bool.{cases_Bool}
use Rattle.meaning.specs.Refusals.{first}

-- no row of the first of two tables applies
pub first_behind : (rows more : List (ℕ × Bool)) → first rows ≡ None → first (rows ++ more) ≡ first more
first_behind [] more e = refl
first_behind (row ∷ rows) more e =
    ⊎_elim
    (λ (t : row.1 ≡ true). let z : ◌≡◌ {A = Option ℕ} (Some row.0) None = cc in let n : ◌≡◌ {A = ℕ} 0 1 = cc in absurd (omega arith))
    (λ (f : row.1 ≡ false).
    let rest : first (rows ++ more) ≡ first more = first_behind rows more (cc) in cc)
    (cases_Bool row.1)
