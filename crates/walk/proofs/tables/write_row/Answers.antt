use Rattle.std.proofs.Common.{◌≡◌, ℕ, ◌+◌, List, get_or, sym, ap, ◌∙◌, subst, arith}
use lib.Bits.{bit_and}
use Rattle.bits.specs.Rows.{width, Cleared, RowSet}
use Rattle.walk.specs.Rows.{Kept, Upto, RowAt}
use Rattle.walk.proofs.Layouts.{kept_yes, kept_no, row_none, row_more, row_skip}
use Rattle.walk.proofs.tables.write_row.Goals as goal
use Rattle.walk.proofs.tables.write_row.Goals.{then-words-scratch-ne0, else-words-scratch-ne0}

pub loop-v-init : goal.loop-v-init
loop-v-init c =
    let P = Kept c.clear.new.words c.args.scratch c.args.n c.args.accept in
    row_none P c.args.words.now c.clear.new.words c.args.start (width c.args.n)
    (subst (λ (k : ℕ). Cleared c.args.words.now c.clear.new.words c.args.start k) c.width.ensures c.clear.ensures)

pub loop-v-preserved : goal.loop-v-preserved
loop-v-preserved c =
    let Z = c.clear.new.words in
    let Y = c.loop-v.words in
    let n = c.args.n in
    let t = c.args.scratch in
    let v = c.loop-v.v in
    let s = c.args.start in
    let P = Kept Z t n c.args.accept in
    let same : get_or Y (t + v) 0 ≡ get_or Z (t + v) 0 = c.loop-v.invariant.rest (t + v) (λ a b. omega arith) in
    elim c.if-words-scratch-ne0.branch [
      | then-words-scratch-ne0 w ↦ row_more P Z Y s (width n) c.if-words-scratch-ne0.words v (omega arith) c.loop-v.invariant
          (subst (λ (L : List ℕ). RowSet Y L s v) (sym w.words-is) w.set.ensures)
          (kept_yes Z t n c.args.accept v (omega arith) c.loop-v-test.true (λ z. w.if-words-scratch-ne0.true (ap (λ (y : ℕ). bit_and y c.args.accept) same ∙ z)))
      | else-words-scratch-ne0 w ↦ subst (λ (L : List ℕ). RowAt (Upto P (v + 1)) Z L s (width n)) (sym w.words-is)
          (row_skip P Z Y s (width n) v c.loop-v.invariant (kept_no Z t n c.args.accept v (sym (ap (λ (y : ℕ). bit_and y c.args.accept) same) ∙ w.if-words-scratch-ne0.false)))
    ]
