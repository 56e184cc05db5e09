use Rattle.std.proofs.Common.{◌≡◌, ◌+◌, ◌*◌, ◌≤◌, Bool, true, false, ap, sym, subst, arith}
use Rattle.joins.specs.Sides.{NotedToo, is_first}
use Rattle.joins.proofs.Siding.{row_end, noted_more, noted_wider, noted_from}
use Rattle.joins.proofs.sides.note.Goals.{in-First, in-Second}
use Rattle.joins.proofs.sides.note.Goals as goal

pub loop-u-preserved : goal.loop-u-preserved
loop-u-preserved c =
    let u = c.loop-u.u in
    let w = c.args.rows.width in
    let fits : c.args.start + u * w + w ≤ c.args.mask = omega (arith, row_end u c.args.rows.count w (omega arith)) in
    let before : Bool → Type 0 = λ b. NotedToo c.clear.new.words c.loop-u.words c.args.start u w c.args.mask b in
    let after : Bool → Type 0 = λ b. NotedToo c.clear.new.words c.match-side.words c.args.start (u + 1) w c.args.mask b in
    elim c.match-side.branch [
      | in-First x ↦ (let is : is_first c.args.side ≡ true = ap is_first x.in-First.is in
          subst after (sym is) (rw x.words-is (noted_more c.clear.new.words c.loop-u.words _ c.args.start u w c.args.mask fits (subst before is c.loop-u.invariant) x.note_row.ensures)))
      | in-Second x ↦ (let is : is_first c.args.side ≡ false = ap is_first x.in-Second.is in
          subst after (sym is) (rw x.words-is (noted_wider c.clear.new.words c.loop-u.words _ c.args.start u w c.args.mask fits (subst before is c.loop-u.invariant) x.widen.ensures)))
    ]

pub returns : goal.returns
returns c =
    let all : c.loop-u.u ≡ c.args.rows.count = omega (arith, c.loop-u-test.false, c.loop-u.auto.u-end) in
    noted_from c.args.words.now c.clear.new.words c.loop-u.words c.args.start c.args.rows.count c.args.rows.width c.args.mask (is_first c.args.side) c.requires.apart c.clear.ensures
    (subst (λ k. NotedToo c.clear.new.words c.loop-u.words c.args.start k c.args.rows.width c.args.mask (is_first c.args.side)) all c.loop-u.invariant)
