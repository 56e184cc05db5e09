use Rattle.record.proofs.Going.{goes_on}
use Rattle.record.proofs.calls.next.Goals as goal

pub returns : goal.returns
returns c = record {
  answer = c.advance.ensures;
  listing = goes_on c.args.query.now c.args.words.now c.args.answer.now c.advance.result c.advance.new.query c.advance.new.answer c.advance.ensures;
}
