use Rattle.std.proofs.Common.{◌^◌, ◌<◌}
use Rattle.walk.proofs.Unions.{Following}
use Rattle.walk.proofs.masks.successors.Given as goal

abbrev pub invariant-loop-s : goal.invariant-loop-s
invariant-loop-s l = (l.s-iterator.0 < 2 ^ 64) × Following l.automaton l.states l.s-iterator.0 l.next
