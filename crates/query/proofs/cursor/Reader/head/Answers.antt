use Rattle.std.proofs.Common.{refl}
use Rattle.std.proofs.lemmas.Result.{err_from_is_err_and}
use Rattle.query.proofs.Wholes.{head_unnamed, head_begins, head_more, head_fails, no_names}
use Rattle.query.proofs.cursor.Reader.head.Goals as goal

pub returns-in_err-first : goal.returns-in_err-first
returns-in_err-first c =
    let p = err_from_is_err_and c.from_residual.result c.from_residual.ensures.1 in
    rw (p.1, p.2) (head_unnamed c.in_err-first.ensures)

pub loop-self-init : goal.loop-self-init
loop-self-init c = head_begins c.requires c.in_ok-first.ensures (c.push.ensures _ (no_names refl refl))

pub loop-self-preserved : goal.loop-self-preserved
loop-self-preserved c = head_more c.loop-self.invariant c.loop-self-test.ensures c.in_ok-more.ensures (c.push-in-loop-self.ensures _ c.loop-self.invariant.keeps)

pub returns-in_err-more : goal.returns-in_err-more
returns-in_err-more c =
    let p = err_from_is_err_and c.from_residual-in_err-more.result c.from_residual-in_err-more.ensures.1 in
    rw (p.1, p.2) (head_fails c.requires c.in_ok-first.ensures c.loop-self.invariant c.loop-self-test.ensures c.in_err-more.ensures)
