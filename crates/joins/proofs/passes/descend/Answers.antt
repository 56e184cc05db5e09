use Rattle.std.proofs.Common.{length, arith}
use Rattle.order.specs.Ranks.{ranks}
use Rattle.shapes.specs.Checks.{of}
use Rattle.joins.proofs.Ranking.{descended_more}
use Rattle.joins.proofs.passes.descend.Goals as goal

pub loop-i-preserved : goal.loop-i-preserved
loop-i-preserved c =
    let o = c.args.order.now in
    descended_more (of c.args.atoms.now) (length c.args.atoms.now) c.requires.ordered.0 (ranks o) c.requires.ordered.1
    c.args.rows.count c.args.rows.width c.args.words.now c.loop-i.words c.semijoin.new.words c.loop-i.i (omega arith) (omega arith) c.loop-i.invariant c.semijoin.ensures
