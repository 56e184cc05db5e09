use Rattle.std.proofs.Common.{◌≡◌, length}
use Rattle.automata.specs.Sets.{Linked}
use Rattle.automata.proofs.builder.Builder.link.Given as goal

abbrev pub invariant-loop-p : goal.invariant-loop-p
invariant-loop-p l = (length l.row-items ≡ 64) × Linked l.fn.self.follow l.row-items l.p l.last l.first
