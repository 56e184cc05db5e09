use Rattle.std.proofs.Common.{◌≡◌, ◌++◌, map, take, string_bytes}
use Rattle.wiring.specs.Lines.{printed, text}
use Rattle.wiring.proofs.reports.push_lines.Given as goal

abbrev pub invariant-loop-item : goal.invariant-loop-item
invariant-loop-item g l = string_bytes l.out ≡ string_bytes l.initial.out ++ text (map (λ x. printed (g.T.Display.output x)) (take l.item-index l.items))
