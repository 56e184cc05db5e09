use Rattle.std.proofs.Common.{ℕ, List, string_bytes, ap}
use Rattle.wiring.specs.Lines.{printed}
use Rattle.wiring.proofs.Texts.{line_more, text_more}
use Rattle.wiring.proofs.reports.push_lines.Goals as goal

pub loop-item-preserved : goal.loop-item-preserved
loop-item-preserved g c =
    let line : g.row.T.Denot → List ℕ = λ x. printed (g.T.Display.output x) in
    text_more line c.args.items.now (string_bytes c.args.out.now) c.loop-item.item-index c.item-item.result (string_bytes c.loop-item.out) (string_bytes c.write.new.self) (line c.item-item.result)
    c.loop-item-test.true c.loop-item.invariant (ap line c.item-item.is)
    (line_more (g.T.Display.output c.item-item.result) (string_bytes c.loop-item.out) (string_bytes c.write.new.self) (c.requires c.item-item.result) c.in_ok-write.ensures.bytes)
