use Rattle.std.proofs.Common.{ℕ, subst}
use Rattle.bits.specs.Bits.{Has}
use Rattle.bits.proofs.Sets.{has_zero}
use Rattle.walk.proofs.Marking.{grown_none}
use Rattle.walk.proofs.marks.spread.Goals as goal

pub returns-then-states-eq0 : goal.returns-then-states-eq0
returns-then-states-eq0 g c = grown_none _ _ _ (λ w s h. has_zero s (subst (λ (y : ℕ). Has y s) c.if-states-eq0.true h.1))
