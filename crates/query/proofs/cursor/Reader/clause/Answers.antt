use Rattle.query.proofs.Drafting.{clause_long, clause_read}
use Rattle.query.proofs.cursor.Reader.clause.Goals as goal

pub excess-over-requires : goal.excess-over-requires
excess-over-requires c = clause_long c.in_ok-atom.ensures

pub returns : goal.returns
returns c = clause_read c.excess-over.result c.in_ok-atom.ensures c.excess-over.ensures c.push.ensures.head c.push.ensures.count c.push.ensures.kept c.push.ensures.put c.push.ensures.over
