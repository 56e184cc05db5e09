use Rattle.std.proofs.Common.{◌-◌, length}
use Rattle.query.proofs.Drafting.{SoFar}
use Rattle.query.proofs.texts.whole.Given as goal

abbrev pub invariant-loop-reader : goal.invariant-loop-reader
invariant-loop-reader l = SoFar l.text l.reader l.out

abbrev pub decreases-loop-reader : goal.decreases-loop-reader
decreases-loop-reader l = length l.reader.text.now - l.reader.at
