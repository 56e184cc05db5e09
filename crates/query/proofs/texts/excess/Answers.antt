use Rattle.std.proofs.Common.{arith}
use Rattle.query.proofs.Letters.{over_letters, over_none}
use Rattle.query.proofs.texts.excess.Goals as goal

pub returns-then-size-gt63 : goal.returns-then-size-gt63
returns-then-size-gt63 c = λ t ys e s. over_letters c.args.text.now _ _ _ t ys (λ h. omega arith) (omega arith) e c.sixty_fourth.ensures

pub returns-else-size-gt63 : goal.returns-else-size-gt63
returns-else-size-gt63 c = λ t ys e s. over_none _ _ t (λ h. omega arith) (omega arith)
