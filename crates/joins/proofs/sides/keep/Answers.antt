use Rattle.std.proofs.Common.{◌≡◌, ◌+◌, ◌*◌, ◌<◌, ◌≤◌, Bool, true, false, ap, sym, subst, arith}
use Rattle.joins.specs.Sides.{KeptBy, is_first}
use Rattle.joins.proofs.Siding.{row_end, kept_more, kept_narrower}
use Rattle.joins.proofs.sides.keep.Goals.{in-First, in-Second}
use Rattle.joins.proofs.sides.keep.Goals as goal

pub loop-u-preserved : goal.loop-u-preserved
loop-u-preserved c =
    let u = c.loop-u.u in
    let w = c.args.rows.width in
    let fits : c.args.start + u * w + w ≤ c.args.mask = omega (arith, row_end u c.args.rows.count w (omega arith)) in
    let low : u < w * 64 = omega (arith, c.args.rows.wide, c.loop-u-test.true) in
    let before : Bool → Type 0 = λ b. KeptBy c.args.words.now c.loop-u.words c.args.start u w c.args.mask b in
    let after : Bool → Type 0 = λ b. KeptBy c.args.words.now c.match-side.words c.args.start (u + 1) w c.args.mask b in
    elim c.match-side.branch [
      | in-First x ↦ (let is : is_first c.args.side ≡ true = ap is_first x.in-First.is in
          subst after (sym is) (rw x.words-is (kept_more c.args.words.now c.loop-u.words _ c.args.start u w c.args.mask fits low (subst before is c.loop-u.invariant) x.keep_row.ensures)))
      | in-Second x ↦ (let is : is_first c.args.side ≡ false = ap is_first x.in-Second.is in
          subst after (sym is) (rw x.words-is (kept_narrower c.args.words.now c.loop-u.words _ c.args.start u w c.args.mask fits low (subst before is c.loop-u.invariant) x.narrow.ensures)))
    ]
