-- Results whose error alone is changed.
use Rattle.std.proofs.Common.{◌≡◌, Result, Ok, Err, sym, ap, ◌∙◌}
use Rattle.std.proofs.lemmas.Bool.{both_ways}
use Rattle.std.specs.Result.{MatchResult, is_ok}

-- an Ok after `map_err` was that Ok before it
pub ok_before : {A E F : Type 0} (Q : E → Type 0) (r : Result A E) (s : Result A F) (x : A) → MatchResult r (λ y. s ≡ Ok y) Q → is_ok s ≡ is_ok r → s ≡ Ok x → r ≡ Ok x
ok_before {A} {E} {F} Q (Ok y) s x m v e = ap (λ (z : Result A F). moved z) (sym m ∙ e)
  where
    moved : Result A F → Result A E
    moved (Ok w) = Ok w
    moved (Err f) = Ok x
ok_before Q (Err f) s x m v e = absurd (both_ways (is_ok s) v (ap is_ok e))
