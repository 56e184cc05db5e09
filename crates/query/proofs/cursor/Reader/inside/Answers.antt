use Rattle.std.proofs.lemmas.Result.{err_from_is_err_and}
use Rattle.query.proofs.Wholes.{inside_fails, inside_closes, inside_unclosed}
use Rattle.query.proofs.cursor.Reader.inside.Goals as goal

pub returns-in_err-part : goal.returns-in_err-part
returns-in_err-part c =
    let p = err_from_is_err_and c.from_residual.result c.from_residual.ensures.1 in
    rw (p.1, p.2) (inside_fails c.if-eat.ensures c.in_err-part.ensures)

pub returns-then-eat-2 : goal.returns-then-eat-2
returns-then-eat-2 c = inside_closes c.if-eat.ensures c.in_ok-part.ensures c.if-eat-2.ensures

pub returns-else-eat-2 : goal.returns-else-eat-2
returns-else-eat-2 c = inside_unclosed c.if-eat.ensures c.in_ok-part.ensures c.if-eat-2.ensures
