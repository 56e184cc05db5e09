use Rattle.std.proofs.Common.{◌≡◌, ℕ, ◌<◌, ◌≤◌, get_or}
use Rattle.bits.proofs.rows.update.Given as goal

abbrev pub invariant-loop-i : goal.invariant-loop-i
invariant-loop-i g l = ((k : ℕ) → k < l.i → goal.F-post g l.f (get_or l.initial.to k 0) (get_or l.from k 0) (get_or l.to k 0))
    × ((k : ℕ) → l.i ≤ k → get_or l.to k 0 ≡ get_or l.initial.to k 0)
