use Rattle.std.proofs.Common.{ℕ, ◌≤◌, length, subst, arith}
use Rattle.parse.proofs.Facts.{arranged, count_few, count_some}
use Rattle.record.specs.Calls.{needed}
use Rattle.record.proofs.calls.prepare.Goals as goal

pub fill_tables-requires : goal.fill_tables-requires
fill_tables-requires g c =
    let q = c.args.query.now in
    let room : needed q.parsed.query.count c.node_count-nodes.result ≤ length c.args.words.now = omega arith in
    record {
      some = (count_some q.parsed q.held, count_few q.parsed q.held);
      order = arranged q.parsed q.held;
      room = subst (λ (y : ℕ). needed q.parsed.query.count y ≤ length c.args.words.now) c.node_count-nodes.ensures room;
    }
