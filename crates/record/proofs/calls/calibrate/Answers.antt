use Rattle.record.proofs.Going.{begins_from}
use Rattle.record.proofs.calls.calibrate.Goals as goal

pub returns : goal.returns
returns g c = record {
  tables = c.prepare.ensures;
  begins = begins_from (g.G.Graph.graph c.args.graph.now) c.args.query.now c.prepare.new.query c.args.words.now c.prepare.new.words c.prepare.result c.prepare.ensures;
}
