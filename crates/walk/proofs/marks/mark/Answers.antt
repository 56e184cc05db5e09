use Rattle.std.proofs.Common.{arith}
use Rattle.walk.proofs.Halves.{marked_both}
use Rattle.walk.proofs.marks.mark.Goals as goal

pub returns : goal.returns
returns c = marked_both c.args.n c.args.z.now c.args.node c.args.states c.requires.below c.requires.scratch (omega arith) (omega arith)
