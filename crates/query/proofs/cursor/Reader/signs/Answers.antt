use Rattle.std.proofs.Common.{refl, arith}
use Rattle.query.proofs.Joints.{sign_more, by_star, by_plus, by_opt}
use Rattle.query.proofs.cursor.Reader.signs.Goals.{in-42, in-43, in-63}
use Rattle.query.proofs.cursor.Reader.signs.Goals as goal

pub loop-c-preserved : goal.loop-c-preserved
loop-c-preserved c =
    let e = c.in-Some.ensures in
    elim c.match-c.branch [
      | in-42 w ↦ rw (w.out-is, w.part-is) (sign_more 42 _ c.loop-c.invariant e.rest w.in-42.is refl refl (omega (arith, e.end)) (by_star w.star-part.ensures.count w.star-part.ensures.symbols w.star-part.ensures.linked w.star-part.ensures.part))
      | in-43 w ↦ rw (w.out-is, w.part-is) (sign_more 43 _ c.loop-c.invariant e.rest w.in-43.is refl refl (omega (arith, e.end)) (by_plus w.plus-part.ensures.count w.plus-part.ensures.symbols w.plus-part.ensures.linked w.plus-part.ensures.part))
      | in-63 w ↦ rw (w.out-is, w.part-is) (sign_more 63 _ c.loop-c.invariant e.rest w.in-63.is refl refl (omega (arith, e.end)) (by_opt w.optional-part.ensures))
    ]
