use Rattle.std.proofs.Common.{◌-◌, length}
use Rattle.query.specs.Grammar.{step}
use Rattle.query.proofs.Joints.{Moved}
use Rattle.query.proofs.cursor.Reader.signs.Given as goal

abbrev pub invariant-loop-c : goal.invariant-loop-c
invariant-loop-c l = Moved step l.initial.self l.self l.initial.out l.out l.initial.part l.part

abbrev pub decreases-loop-c : goal.decreases-loop-c
decreases-loop-c l = length l.self.text.now - l.self.at
