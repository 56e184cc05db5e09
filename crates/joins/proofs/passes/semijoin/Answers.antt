use Rattle.std.proofs.Common.{◌*◌, sym, eqb, length}
use Rattle.shapes.specs.Checks.{of}
use Rattle.joins.proofs.Siding.{row_end, joined_from}
use Rattle.joins.proofs.Placing.{reduced_from}
use Rattle.joins.proofs.passes.semijoin.Goals as goal

pub returns : goal.returns
returns c =
    let m = length c.args.atoms.now in
    let n = c.args.rows.count in
    let w = c.args.rows.width in
    let q = of c.args.atoms.now in
    let x = c.args.variable in
    reduced_from q c.args.words.now c.clear.new.words m n w c.args.into c.args.from x c.requires.into c.requires.from c.args.rows.wide c.requires.ready
    (joined_from c.args.words.now c.note.new.words c.keep.new.words c.clear.new.words (c.args.into * (n * w)) (c.args.from * (n * w)) n w (m * (n * w))
    (eqb x (q.first c.args.into)) (eqb x (q.first c.args.from))
    (row_end c.args.into m (n * w) c.requires.into) (row_end c.args.from m (n * w) c.requires.from) c.args.rows.wide (rw (sym c.of.ensures) c.note.ensures) (rw (sym c.of-2.ensures) c.keep.ensures) c.clear.ensures)
