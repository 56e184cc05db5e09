use Rattle.std.proofs.lemmas.Result.{err_from_is_err_and}
use Rattle.query.proofs.Wholes.{atom_unnamed, atom_unopened, atom_inside, atom_unended, atom_read}
use Rattle.query.proofs.cursor.Reader.atom.Goals as goal

pub returns-in_err-first : goal.returns-in_err-first
returns-in_err-first c =
    let p = err_from_is_err_and c.from_residual.result c.from_residual.ensures.1 in
    rw (p.1, p.2) (atom_unnamed c.in_err-first.ensures)

pub returns-then-not-eat : goal.returns-then-not-eat
returns-then-not-eat c = atom_unopened c.in_ok-first.ensures c.if-not-eat.ensures

pub returns-in_err-part : goal.returns-in_err-part
returns-in_err-part c =
    let p = err_from_is_err_and c.from_residual-in_err-part.result c.from_residual-in_err-part.ensures.1 in
    rw (p.1, p.2) (atom_inside c.in_ok-first.ensures c.if-not-eat.ensures c.in_err-part.ensures)

pub returns-in_err-second : goal.returns-in_err-second
returns-in_err-second c =
    let p = err_from_is_err_and c.from_residual-in_err-second.result c.from_residual-in_err-second.ensures.1 in
    rw (p.1, p.2) (atom_unended c.in_ok-first.ensures c.if-not-eat.ensures c.in_ok-part.ensures c.in_err-second.ensures)

pub returns : goal.returns
returns c = atom_read c.in_ok-first.ensures c.if-not-eat.ensures c.in_ok-part.ensures c.in_ok-second.ensures c.sealed.ensures c.new-out.ensures
