use Rattle.std.proofs.Common.{sym}
use Rattle.joins.proofs.Siding.{row_kept_no}
use Rattle.joins.proofs.sides.keep_row.Goals as goal

pub returns-then-not-test : goal.returns-then-not-test
returns-then-not-test c = row_kept_no c.args.words.now c.clear.new.words c.args.row c.args.w c.args.mask c.args.u (sym c.if-not-test.ensures) c.clear.ensures
