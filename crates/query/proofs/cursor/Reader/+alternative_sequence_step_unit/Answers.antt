use Rattle.std.proofs.Common.{[], ◌∷◌, refl, ap, arith}
use Rattle.std.proofs.lemmas.Result.{err_from_is_err_and}
use Rattle.query.specs.Grammar.{dot, letter}
use Rattle.query.proofs.Joints.{by_slash, by_bar, by_join, by_either, fails_first, goes_round, fails_later, ends, one_byte, fails_inside, closes, unclosed, fails_unit, with_signs, at_end, bad_here}
use Rattle.query.proofs.cursor.Reader.+alternative_sequence_step_unit.Goals as goal

pub alternative-returns-in_err-part : goal.alternative-returns-in_err-part
alternative-returns-in_err-part t c =
    let p = err_from_is_err_and c.from_residual.result c.from_residual.ensures.1 in
    rw (p.1, p.2) (fails_first by_bar c.in_err-part.ensures)

pub alternative-loop-self-preserved : goal.alternative-loop-self-preserved
alternative-loop-self-preserved t c = goes_round by_bar c.loop-self.invariant c.loop-self-test.ensures c.in_ok-more.ensures (by_either c.either-part.ensures)

pub alternative-returns-in_err-more : goal.alternative-returns-in_err-more
alternative-returns-in_err-more t c =
    let p = err_from_is_err_and c.from_residual-in_err-more.result c.from_residual-in_err-more.ensures.1 in
    rw (p.1, p.2) (fails_later by_bar c.in_ok-part.ensures c.loop-self.invariant c.loop-self-test.ensures c.in_err-more.ensures)

pub alternative-returns : goal.alternative-returns
alternative-returns t c = ends by_bar c.in_ok-part.ensures c.loop-self.invariant c.loop-self-test.ensures

pub sequence-returns-in_err-part : goal.sequence-returns-in_err-part
sequence-returns-in_err-part t c =
    let p = err_from_is_err_and c.from_residual.result c.from_residual.ensures.1 in
    rw (p.1, p.2) (fails_first by_slash c.in_err-part.ensures)

pub sequence-loop-self-preserved : goal.sequence-loop-self-preserved
sequence-loop-self-preserved t c = goes_round by_slash c.loop-self.invariant c.loop-self-test.ensures c.in_ok-more.ensures (by_join c.join-part.ensures.count c.join-part.ensures.symbols c.join-part.ensures.linked c.join-part.ensures.part)

pub sequence-returns-in_err-more : goal.sequence-returns-in_err-more
sequence-returns-in_err-more t c =
    let p = err_from_is_err_and c.from_residual-in_err-more.result c.from_residual-in_err-more.ensures.1 in
    rw (p.1, p.2) (fails_later by_slash c.in_ok-part.ensures c.loop-self.invariant c.loop-self-test.ensures c.in_err-more.ensures)

pub sequence-returns : goal.sequence-returns
sequence-returns t c = ends by_slash c.in_ok-part.ensures c.loop-self.invariant c.loop-self-test.ensures

pub step-returns-in_err-unit : goal.step-returns-in_err-unit
step-returns-in_err-unit t c =
    let p = err_from_is_err_and c.from_residual.result c.from_residual.ensures.1 in
    rw (p.1, p.2) (fails_unit c.in_err-unit.ensures)

pub step-returns : goal.step-returns
step-returns t c = with_signs c.in_ok-unit.ensures c.signs.ensures

pub unit-returns-in_default : goal.unit-returns-in_default
unit-returns-in_default t c = at_end c.args.self.now c.args.out.now c.requires c.in_default.ensures.rest c.args.self.now.within

pub unit-returns-in_err-part-in-40 : goal.unit-returns-in_err-part-in-40
unit-returns-in_err-part-in-40 t c =
    let p = err_from_is_err_and c.from_residual.result c.from_residual.ensures.1 in
    rw (p.1, p.2) (fails_inside c.in-Some.c c.in-Some.ensures.rest c.in-40.is refl refl c.in_err-part-in-40.ensures)

pub unit-returns-in-46 : goal.unit-returns-in-46
unit-returns-in-46 t c = one_byte _ _ dot c.in-Some.c (omega (arith, c.add.ensures.holds.counts, c.requires)) c.add.ensures.holds c.add.ensures.kept (omega (arith, c.in-Some.ensures.end)) (omega arith) refl c.in-Some.ensures.rest (ap (λ y. y ∷ []) c.in-46.is)

pub unit-returns-then-eat : goal.unit-returns-then-eat
unit-returns-then-eat t c = closes c.in-Some.c c.in-Some.ensures.rest c.in-40.is refl refl c.in_ok-part-in-40.ensures c.if-eat.ensures

pub unit-returns-else-eat : goal.unit-returns-else-eat
unit-returns-else-eat t c = unclosed c.in-Some.c c.in-Some.ensures.rest c.in-40.is refl refl c.in_ok-part-in-40.ensures c.if-eat.ensures

pub unit-returns-in-a-to-z : goal.unit-returns-in-a-to-z
unit-returns-in-a-to-z t c = one_byte _ _ (letter c.in-Some.c (omega arith) (omega arith)) c.in-Some.c (omega (arith, c.add-in-a-to-z.ensures.holds.counts, c.requires)) c.add-in-a-to-z.ensures.holds c.add-in-a-to-z.ensures.kept (omega (arith, c.in-Some.ensures.end)) (omega arith) refl c.in-Some.ensures.rest refl

pub unit-returns-in_default-c : goal.unit-returns-in_default-c
unit-returns-in_default-c t c = bad_here c.args.self.now c.args.out.now c.requires c.in-Some.c _ c.in-Some.ensures.rest c.args.self.now.within (λ a b. omega arith) (λ e. omega arith) (λ e. omega arith)
