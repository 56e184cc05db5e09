use Rattle.std.proofs.Common.{◌+◌, ◌-◌, ◌*◌, length}
use Rattle.query.specs.Grammar.{alternative, sequence, step}
use Rattle.query.specs.Outcome.{Ahead}
use Rattle.query.proofs.cursor.Reader.+alternative_sequence_step_unit.Given as goal

abbrev pub decreases-alternative : goal.decreases-alternative
decreases-alternative l = 4 * (length l.self.now.text.now - l.self.now.at) + 3

abbrev pub decreases-sequence : goal.decreases-sequence
decreases-sequence l = 4 * (length l.self.now.text.now - l.self.now.at) + 2

abbrev pub decreases-step : goal.decreases-step
decreases-step l = 4 * (length l.self.now.text.now - l.self.now.at) + 1

abbrev pub decreases-unit : goal.decreases-unit
decreases-unit l = 4 * (length l.self.now.text.now - l.self.now.at)

abbrev pub invariant-alternative-loop-self : goal.invariant-alternative-loop-self
invariant-alternative-loop-self l = Ahead alternative sequence l.initial.self l.self l.initial.out l.out l.initial.part l.part

abbrev pub decreases-alternative-loop-self : goal.decreases-alternative-loop-self
decreases-alternative-loop-self l = length l.self.text.now - l.self.at

abbrev pub invariant-sequence-loop-self : goal.invariant-sequence-loop-self
invariant-sequence-loop-self l = Ahead sequence step l.initial.self l.self l.initial.out l.out l.initial.part l.part

abbrev pub decreases-sequence-loop-self : goal.decreases-sequence-loop-self
decreases-sequence-loop-self l = length l.self.text.now - l.self.at
