use Rattle.record.proofs.Newness.{not_denied}
use Rattle.record.proofs.records.Query.new.Goals as goal

pub unreachable-requires : goal.unreachable-requires
unreachable-requires c = not_denied _ c.in-Err.ensures
