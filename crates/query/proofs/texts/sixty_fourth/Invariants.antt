use Rattle.std.proofs.Common.{◌+◌}
use Rattle.query.proofs.Letters.{Sought}
use Rattle.query.proofs.texts.sixty_fourth.Given as goal

abbrev pub invariant-loop-i : goal.invariant-loop-i
invariant-loop-i l = Sought l.text l.from (l.from + l.i) l.seen
