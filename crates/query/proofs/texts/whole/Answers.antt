use Rattle.std.proofs.Common.{refl, arith}
use Rattle.std.proofs.lemmas.Result.{err_from_is_err_and}
use Rattle.query.proofs.Drafting.{whole_headless, whole_first_fails, whole_begins, whole_more, whole_fails, whole_rest}
use Rattle.query.proofs.texts.whole.Goals as goal

pub returns-in_err-head : goal.returns-in_err-head
returns-in_err-head c =
    let p = err_from_is_err_and c.from_residual.result c.from_residual.ensures.1 in
    rw (p.1, p.2) (whole_headless {xs = c.args.text.now} refl refl c.in_err-head.ensures)

pub returns-in_err-clause : goal.returns-in_err-clause
returns-in_err-clause c =
    let p = err_from_is_err_and c.from_residual-in_err-clause.result c.from_residual-in_err-clause.ensures.1 in
    rw (p.1, p.2) (whole_first_fails {xs = c.args.text.now} refl refl c.in_ok-head.ensures c.in_err-clause.ensures)

pub loop-reader-init : goal.loop-reader-init
loop-reader-init c = whole_begins {xs = c.args.text.now} refl refl c.in_ok-head.ensures c.in_ok-clause.ensures refl refl refl

pub loop-reader-preserved : goal.loop-reader-preserved
loop-reader-preserved c = whole_more c.loop-reader.invariant c.loop-reader-test.ensures c.in_ok-clause-2.ensures

pub returns-in_err-clause-2 : goal.returns-in_err-clause-2
returns-in_err-clause-2 c =
    let p = err_from_is_err_and c.from_residual-in_err-clause-2.result c.from_residual-in_err-clause-2.ensures.1 in
    rw (p.1, p.2) (whole_fails c.loop-reader.invariant c.loop-reader-test.ensures c.in_err-clause-2.ensures)

pub returns-then-reader-text : goal.returns-then-reader-text
returns-then-reader-text c = whole_rest c.loop-reader.invariant c.loop-reader-test.ensures (omega arith)
