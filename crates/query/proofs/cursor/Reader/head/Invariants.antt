use Rattle.std.proofs.Common.{◌-◌, length}
use Rattle.query.proofs.Wholes.{HeadSoFar}
use Rattle.query.proofs.cursor.Reader.head.Given as goal

abbrev pub invariant-loop-self : goal.invariant-loop-self
invariant-loop-self l = HeadSoFar l.initial.self l.self l.out

abbrev pub decreases-loop-self : goal.decreases-loop-self
decreases-loop-self l = length l.self.text.now - l.self.at
