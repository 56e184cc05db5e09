use Rattle.std.proofs.Common.{rules}
use Rattle.parse.proofs.ends.Goals as goal

pub returns-clause-each : goal.returns-clause-each
returns-clause-each c d i l = let made = (c.from_fn.ensures.items.at i d l).2 in search rules
