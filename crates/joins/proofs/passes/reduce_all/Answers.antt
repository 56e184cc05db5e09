use Rattle.std.proofs.Common.{length}
use Rattle.order.specs.Ranks.{ranks}
use Rattle.shapes.specs.Checks.{of}
use Rattle.joins.proofs.Ranking.{passed_from}
use Rattle.joins.proofs.passes.reduce_all.Goals as goal

pub returns : goal.returns
returns c =
    let q = c.args.order.now in
    passed_from (of c.args.atoms.now) (length c.args.atoms.now) c.requires.ordered.0 (ranks q) c.requires.ordered.1
    c.args.rows.count c.args.rows.width c.args.words.now c.climb.new.words c.descend.new.words c.climb.ensures c.descend.ensures
