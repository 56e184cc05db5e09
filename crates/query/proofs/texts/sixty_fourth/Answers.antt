use Rattle.std.proofs.Common.{◌≡◌, ℕ, ◌+◌, ◌-◌, ◌<◌, length, get_or, sym, ap, ◌∙◌, subst, arith}
use Rattle.query.specs.Limits.{symbol}
use Rattle.query.proofs.Letters.{Sought, sought_more, weighs, weighs_not, read_from, length_from}
use Rattle.query.proofs.texts.sixty_fourth.Goals.{then-is_symbol+else-seen-eq63, else-is_symbol}
use Rattle.query.proofs.texts.sixty_fourth.Goals as goal

pub loop-i-preserved : goal.loop-i-preserved
loop-i-preserved c =
    let xs = c.args.text.now in
    let from = c.args.from in
    let i = c.loop-i.i in
    let long = length_from xs from in
    let low : i < length xs - from = omega (arith, long, c.loop-i-test.true) in
    let at : from + i < length xs = omega (arith, low) in
    let read = read_from xs from i c.requires low in
    let next : from + i + 1 ≡ from + (i + 1) = omega arith in
    subst (λ (k : ℕ). Sought xs from k c.if-is_symbol.seen) next
    (elim c.if-is_symbol.branch [
      | then-is_symbol+else-seen-eq63 w ↦ (let e = weighs (get_or xs (from + i) 0) (ap symbol (sym read) ∙ sym w.if-is_symbol.ensures) in let g = w.if-seen-eq63.false in sought_more c.if-is_symbol.seen at c.loop-i.invariant (omega (arith, w.seen-is, e)) (omega (arith, w.seen-is, c.loop-i.invariant.few, g)))
      | else-is_symbol w ↦ (let e = weighs_not (get_or xs (from + i) 0) (ap symbol (sym read) ∙ sym w.if-is_symbol.ensures) in sought_more c.if-is_symbol.seen at c.loop-i.invariant (omega (arith, w.seen-is, e)) (omega (arith, w.seen-is, c.loop-i.invariant.few)))
    ])
