use Rattle.std.proofs.Common.{◌≡◌, ℕ, ◌+◌, ◌-◌, ◌<◌, length, get_or, take, drop, arith, rules, ◌∙◌}
use lib.Bits.{bit_and}
use Rattle.bits.proofs.RowLaws.{changed_front, length_front, narrowed_from}
use Rattle.bits.proofs.rows.narrow.Goals as goal

pub returns : goal.returns
returns c =
    let ws = c.args.words.now in
    let row = c.args.row in
    let mask = c.args.mask in
    let count = c.args.count in
    let new = c.update.new.to in
    let whole : row + count - row ≡ count = omega arith in
    let front = c.split_at_mut-low.ensures.front in
    let back = c.split_at_mut-low.ensures.back in
    let long : length (take (row + count - row) (drop row c.split_at_mut-low.result.0.now)) ≡ count =
    rw (whole, front) (length_front ws row mask count c.requires.apart (omega (arith, c.requires.room))) in
    let each : (k : ℕ) → k < count → get_or new k 0 ≡ bit_and (get_or (take (row + count - row) (drop row c.split_at_mut-low.result.0.now)) k 0) (get_or (take count c.split_at_mut-low.result.1.now) k 0) =
    λ k l. let e = c.update.ensures k (omega (arith, long, l)) in search rules in
    rw (whole, front, back)
    (narrowed_from ws _ row mask count
    (changed_front bit_and ws new row mask count c.requires.apart c.requires.room (c.update.auto.to ∙ long) (rw (whole, front, back) at each)))
