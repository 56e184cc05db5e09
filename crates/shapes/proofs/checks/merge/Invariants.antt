use Rattle.std.proofs.Common.{◌≡◌, ℕ, ◌<◌, ◌≤◌, cond, eqb, length, get_or}
use Rattle.shapes.proofs.checks.merge.Given as goal

abbrev pub invariant-loop-c : goal.invariant-loop-c
invariant-loop-c l = (length l.class ≡ 256) × ((k : ℕ) → k < l.c-index → get_or l.class k 0 ≡ cond (eqb (get_or l.initial.class k 0) l.from) l.into (get_or l.initial.class k 0))
    × ((k : ℕ) → l.c-index ≤ k → get_or l.class k 0 ≡ get_or l.initial.class k 0)
